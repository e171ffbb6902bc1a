use Rattle.std.proofs.Common.{◌≤◌, map, take, vec_items}
use Rattle.store.specs.Puts.{AllPut}
use Rattle.store.proofs.puts.put_all.Given as goal

abbrev pub invariant-loop-accepted : goal.invariant-loop-accepted
invariant-loop-accepted g l =
    let d = g.D.Digest.digests in
    let m = g.S.ChunkStore.meaning in
    let sound = g.S.ChunkStore.sound in
    (l.taken ≤ l.accepted-counter) × (sound l.initial.store → sound l.store × AllPut d (m l.initial.store) (take l.accepted-counter (map vec_items l.chunks)) l.taken (m l.store))
