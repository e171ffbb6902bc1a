use Rattle.std.proofs.Common.{◌≡◌, subst}
use Rattle.store.specs.Meaning.{checked, fallen}
use Rattle.memory.specs.Of.{table_means}
use Rattle.memory.specs.Table.{units}
use Rattle.tree.specs.Build.{Builds}
use Rattle.tree_tests.specs.Piles.{fresh}
use Rattle.tree_tests.proofs.piles.build_in_pile.Goals as goal

pub returns : goal.returns
returns g c =
    let d = g.D.Digest.digests in
    let start : checked d (fallen (checked d (table_means c.fresh_pile-pile.result.inner.front.inner)) (table_means c.fresh_pile-pile.result.inner.back)) ≡ fresh d (units c.args.bytes) =
    λ i. checked d (fallen (checked d (c.fresh_pile-pile.ensures.front i)) (c.fresh_pile-pile.ensures.back i)) in
    let pile = c.build_tree.new.store.inner in
    let after = checked d (fallen (checked d (table_means pile.front.inner)) (table_means pile.back)) in
    (after, subst (λ m. Builds d g.K.Key.kind g.K.Key.code g.K.Key.before m c.args.entries.now c.build_tree.result after) start (c.build_tree.ensures.does (tt, tt)))
