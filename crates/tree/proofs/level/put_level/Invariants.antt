use Rattle.std.proofs.Common.{◌≡◌, ◌+◌, ◌*◌, ◌<◌, ◌≤◌, map, length, take, drop, vec_items, vec_len, vec_capacity}
use Rattle.store.specs.Puts.{AllPut}
use Rattle.tree_laws.specs.Boundary.{nodes}
use Rattle.node.specs.Items.{item_marked, level_above, level_chunks, child_of, total_below}
use Rattle.tree.proofs.level.put_level.Given as goal

abbrev pub invariant-loop-rest : goal.invariant-loop-rest
invariant-loop-rest g l =
    let code = g.K.Key.code in
    let named = g.I.Item.named in
    let value = g.I.Item.value in
    let below = g.I.Item.below in
    let kind = g.K.Key.kind in
    let d = g.D.Digest.digests in
    let sound = g.S.ChunkStore.sound in
    let m = g.S.ChunkStore.meaning in
    let mark = item_marked code named l.level in
    let i = vec_len l.out in
    record {
      room : 0 < length l.rest → 2 * i + length l.rest ≤ length l.items;
      held : nodes mark l.rest ≡ drop i (nodes mark l.items);
      taken : l.taken ≤ i;
      total : total_below (λ c. c.below) (vec_items l.out) + total_below below l.rest ≡ total_below below l.items;
      capacity : vec_capacity l.out ≡ vec_capacity l.initial.out;
      run : sound l.initial.store → sound l.store
          × (map (child_of code) (vec_items l.out) ≡ take i (level_above code named value d below kind l.level l.items))
          × AllPut d (m l.initial.store) (take i (level_chunks code named value kind l.level l.items)) l.taken (m l.store);
      short : i ≤ length (nodes mark l.items);
    }

abbrev pub decreases-loop-rest : goal.decreases-loop-rest
decreases-loop-rest g l = length l.rest
