use Rattle.std.proofs.Common.{sym, ap, ◌∙◌}
use Rattle.node.proofs.Reading.{weaker, item_behind, item_read}
use Rattle.node.proofs.decoding.read_item.Goals as goal

pub returns : goal.returns
returns g c =
    let code = g.K.Key.code in
    let named = g.I.Item.named in
    let value = g.I.Item.value in
    let s = c.args.s.now in
    weaker c.read_value.result c.read_value.ensures
    (λ none x t e.
    let h = item_behind code named value s c.in_ok-code.code.now _ x t c.in_ok-code.ensures e in
    none x t (g.met.K.Key.apart _ _ (sym (c.in_ok-key.ensures ∙ h.0))) h.1)
    (λ p h. item_read code named value s c.in_ok-code.code.now _ p.0 _ c.in_ok-code.ensures (ap code h.0 ∙ c.in_ok-key.ensures) h.1)
