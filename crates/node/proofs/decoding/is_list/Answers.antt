use Rattle.std.proofs.Common.{◌≡◌, ℕ, sym, ◌∙◌, ap, length, subst, arith}
use Rattle.std.proofs.lemmas.Bool.{eqb-true, eq-eqb}
use Rattle.std.proofs.lemmas.List.{nil_from_length}
use Rattle.node.specs.Nodes.{Listed}
use Rattle.node.proofs.Reading.{one_more, all_read, unread, unordered, to_the_end, item_apart}
use Rattle.node.proofs.decoding.is_list.Goals as goal

pub returns-in_default : goal.returns-in_default
returns-in_default g c =
    let apart = item_apart g.K.Key.code g.I.Item.named g.I.Item.value g.met.K.Key.apart g.met.I.Item.apart in (
      (λ z. absurd (let n : ◌≡◌ {A = ℕ} 0 1 = cc in omega arith)),
      (λ y. absurd (unread g.K.Key.code g.K.Key.before g.I.Item.named g.I.Item.value c.args.body.now c.loop.rest.now c.loop.counter c.loop.last c.loop.invariant apart c.args.count y.0 y.1
          c.loop-test.true c.in_default.ensures)),
    )

pub returns-then-not-is_next : goal.returns-then-not-is_next
returns-then-not-is_next g c =
    let apart = item_apart g.K.Key.code g.I.Item.named g.I.Item.value g.met.K.Key.apart g.met.I.Item.apart in (
      (λ z. absurd (let n : ◌≡◌ {A = ℕ} 0 1 = cc in omega arith)),
      (λ y. unordered g.K.Key.code g.K.Key.before g.I.Item.named g.I.Item.value c.args.body.now c.loop.rest.now c.loop.counter c.loop.last c.loop.invariant apart c.args.count y.0 y.1
          c.loop-test.true _ c.key-key.result _ c.in-Some.ensures c.key-key.ensures c.if-not-is_next.ensures),
    )

pub loop-preserved : goal.loop-preserved
loop-preserved g c =
    one_more g.K.Key.code g.K.Key.before g.I.Item.named g.I.Item.value c.args.body.now c.loop.rest.now c.loop.counter c.loop.last c.loop.invariant
    _ c.key-key.result _ c.in-Some.ensures c.key-key.ensures c.if-not-is_next.ensures

pub returns : goal.returns
returns g c =
    let body = c.args.body.now in
    let rest = c.loop.rest.now in
    let done : c.loop.counter ≡ c.args.count = omega arith in
    let apart = item_apart g.K.Key.code g.I.Item.named g.I.Item.value g.met.K.Key.apart g.met.I.Item.apart in (
      (λ z. (c.loop.invariant.items, subst (λ n. Listed g.K.Key.code g.K.Key.before g.I.Item.named g.I.Item.value n body c.loop.invariant.items) done (all_read g.K.Key.code g.K.Key.before g.I.Item.named g.I.Item.value body rest c.loop.counter c.loop.last c.loop.invariant (nil_from_length rest (eqb-true (length rest) 0 (sym c.is_empty.ensures ∙ z)))))),
      (λ y. let l = to_the_end g.K.Key.code g.K.Key.before g.I.Item.named g.I.Item.value body rest c.loop.counter c.loop.last c.loop.invariant apart c.args.count y.0 y.1 done in c.is_empty.ensures ∙ eq-eqb (length rest) 0 (ap length l)),
    )
