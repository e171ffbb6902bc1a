use Rattle.std.proofs.Common.{get_or, drop, sym, ap, ◌∙◌}
use Rattle.node.specs.Items.{item_bytes}
use Rattle.node.proofs.Reading.{item_apart, lists_same}
use Rattle.node.proofs.laws.items_tell.Goals as goal

pub returns : goal.returns
returns g c s l m xs ys p q =
    let e = sym p.chunk ∙ q.chunk in
    let apart = item_apart g.K.Key.code g.I.Item.named g.I.Item.value g.met.K.Key.apart g.met.I.Item.apart in
    (ap (λ w. get_or w 2 0) e, lists_same (item_bytes g.K.Key.code g.I.Item.named g.I.Item.value) apart xs ys (ap (λ w. get_or w 3 0) e) (ap (drop 4) e))
