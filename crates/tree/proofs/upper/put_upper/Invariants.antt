use Rattle.std.proofs.Common.{◌≡◌, ℕ, ◌+◌, ◌*◌, ◌^◌, ◌<◌, ◌≤◌, map, vec_items, vec_len, vec_capacity}
use Rattle.node.specs.Items.{child_of, total_below}
use Rattle.tree.proofs.Climb.{Climbing}
use Rattle.tree.proofs.upper.put_upper.Given as goal

abbrev pub invariant-loop-next : goal.invariant-loop-next
invariant-loop-next g l =
    let d = g.D.Digest.digests in
    let sound = g.S.ChunkStore.sound in
    let m = g.S.ChunkStore.meaning in
    let cs = map (child_of g.K.Key.code) in
    ((0 < vec_len l.here) × (vec_len l.here ≤ 32768))
    × (vec_len l.here < 2 * vec_capacity l.next)
    × (total_below (λ c. c.below) (vec_items l.here) < 2 ^ 32)
    × (l.taken ≤ 65536 * l.level)
    × (1 ≤ l.level)
    × ((f : ℕ) × (f + l.level ≡ 16) × (vec_len l.here ≤ 2 ^ f)
    × (sound l.initial.store → sound l.store × Climbing d g.K.Key.kind (m l.initial.store) (cs (vec_items l.initial.here)) f l.level (cs (vec_items l.here)) l.taken (m l.store)))

abbrev pub decreases-loop-next : goal.decreases-loop-next
decreases-loop-next g l = vec_len l.here
