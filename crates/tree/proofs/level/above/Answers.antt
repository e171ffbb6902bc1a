use Rattle.std.proofs.Common.{◌≡◌, ◌-◌, length, get_or, ap, ◌∙◌}
use Rattle.std.proofs.lemmas.Option.{MatchOption-at_some}
use Rattle.tree.proofs.Totals.{last_at}
use Rattle.tree.proofs.level.above.Goals as goal

pub returns-clause-key : goal.returns-clause-key
returns-clause-key g c =
    let xs = c.args.items.now in
    let last : c.unwrap.result.now ≡ get_or xs (length xs - 1) c.unwrap.result.now = MatchOption-at_some _ _ c.unwrap.result c.unwrap.ensures c.last.ensures.item.1 in
    ap g.K.Key.code c.key.ensures ∙ last_at (λ x. g.K.Key.code (g.I.Item.named x)) xs c.unwrap.result.now c.requires.some last
