use Rattle.std.proofs.Common.{refl, arith}
use Rattle.tree.proofs.Standing.{built_whole}
use Rattle.tree.proofs.build.build_tree.Goals as goal

pub returns-then-is_empty-clause-does : goal.returns-then-is_empty-clause-does
returns-then-is_empty-clause-does g c s =
    built_whole g.D.Digest.digests g.K.Key.kind g.K.Key.code g.K.Key.before (g.S.ChunkStore.meaning c.args.store.now) c.args.entries.now c.in_ok-build_empty.field-0 (g.S.ChunkStore.meaning c.build_empty.new.store)
    (record { ordered = c.if-not-in_order.ensures.0 refl; few = omega (arith, c.if-entries-gt-MOST_ENTRIES.false) }) (c.in_ok-build_empty.ensures.does s)

pub returns-clause-does : goal.returns-clause-does
returns-clause-does g c s =
    built_whole g.D.Digest.digests g.K.Key.kind g.K.Key.code g.K.Key.before (g.S.ChunkStore.meaning c.args.store.now) c.args.entries.now c.in_ok-build_some.field-0 (g.S.ChunkStore.meaning c.build_some.new.store)
    (record { ordered = c.if-not-in_order.ensures.0 refl; few = omega (arith, c.if-entries-gt-MOST_ENTRIES.false) }) (c.in_ok-build_some.ensures.does s)
