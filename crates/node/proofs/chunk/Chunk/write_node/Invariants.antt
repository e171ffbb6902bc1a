use Rattle.std.proofs.Common.{◌≡◌, ◌+◌, ◌*◌, ◌≤◌, ◌∷◌, length, take}
use Rattle.std.specs.List.{flat_map}
use Rattle.node.specs.Chunks.{written}
use Rattle.node.specs.Items.{item_bytes}
use Rattle.node.proofs.chunk.Chunk.write_node.Given as goal

abbrev pub invariant-loop-item : goal.invariant-loop-item
invariant-loop-item g l =
    (l.self.len ≤ 4 + 74 * l.item-index)
    × (written l.self ≡ 1 ∷ g.K.Key.kind ∷ l.level ∷ length l.items ∷ flat_map (item_bytes g.K.Key.code g.I.Item.named g.I.Item.value) (take l.item-index l.items))
