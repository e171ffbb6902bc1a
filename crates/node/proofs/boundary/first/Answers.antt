use Rattle.std.proofs.Common.{◌≡◌, ◌+◌, ◌<◌, true, false, eqb, length, sym, ap, ◌∙◌, arith}
use Rattle.std.proofs.lemmas.Bool.{or_parts}
use Rattle.tree_laws.specs.Boundary.{full, closes}
use Rattle.tree_laws.proofs.Loops.{sought_cut, sought_more, sought_all}
use Rattle.tree_laws.proofs.Sizes.{open_few}
use Rattle.node.specs.Items.{item_marked}
use Rattle.node.proofs.boundary.first.Goals as goal

pub returns-then-closes-clause-cut : goal.returns-then-closes-clause-cut
returns-then-closes-clause-cut g c h =
    let mark = item_marked g.K.Key.code g.I.Item.named c.args.level in
    let items = c.args.items.now in
    let i = c.loop-i.i in
    let lt : i < length items = omega arith in
    let test : closes (i + 1) (mark c.index-items-i.result) (eqb (i + 1) (length items)) ≡ true =
    ap (λ m. closes (i + 1) m (eqb (i + 1) (length items))) (sym c.has_mark.ensures) ∙ sym c.if-closes.ensures
    in
    sought_cut mark items i c.index-items-i.result lt c.index-items-i.is c.loop-i.invariant.0 test

pub loop-i-preserved : goal.loop-i-preserved
loop-i-preserved g c =
    let mark = item_marked g.K.Key.code g.I.Item.named c.args.level in
    let items = c.args.items.now in
    let i = c.loop-i.i in
    let lt : i < length items = omega arith in
    let test : closes (i + 1) (mark c.index-items-i.result) (eqb (i + 1) (length items)) ≡ false =
    ap (λ m. closes (i + 1) m (eqb (i + 1) (length items))) (sym c.has_mark.ensures) ∙ sym c.if-closes.ensures
    in
    let few = open_few (i + 1) (mark c.index-items-i.result) (or_parts (full (i + 1) (mark c.index-items-i.result)) (eqb (i + 1) (length items)) test).0 in
    (sought_more mark items i c.index-items-i.result lt c.index-items-i.is c.loop-i.invariant.0 test, omega (arith, few, c.loop-i.invariant.1))

pub returns-clause-cut : goal.returns-clause-cut
returns-clause-cut g c h = sought_all (item_marked g.K.Key.code g.I.Item.named c.args.level) c.args.items.now c.loop-i.i h c.loop-i-test.false c.loop-i.invariant.0
