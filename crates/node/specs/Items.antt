-- The entries of a node, over any lawful key kind, and what a level makes of them.
use Rattle.std.specs.Prelude.{ℕ, Bool, List, ◌++◌, map, sum_by}
use Rattle.digest.specs.declared.address.Address.{Address}
use Rattle.tree_laws.specs.Boundary.{marked, nodes}
use Rattle.tree_laws.specs.Layout.{Child, sized, node_bytes}
use Rattle.tree_laws.specs.Tree.{last_of}
use Rattle.node.specs.declared.child.Child.{Child as Typed}

-- a child with its key encoded
abbrev pub child_of : {K : Type 0} → (K → List ℕ) → Typed K → Child
child_of code c = record { key = code c.key; at = c.at; below = c.below }

-- the sum of what is below some entries
abbrev pub total_below : {I : Type 0} → (I → ℕ) → List I → ℕ
total_below below xs = sum_by below xs

-- whether an entry is marked at a level
abbrev pub item_marked : {K I : Type 0} → (K → List ℕ) → (I → K) → ℕ → I → Bool
item_marked code named level x = marked level (code (named x))

-- an entry by its key, what stands behind it, and what is below it
module _ {K I : Type 0} (code : K → List ℕ) (named : I → K) (value : I → List ℕ) where
  -- its bytes: the key's length, the key, and what stands behind it
  abbrev pub item_bytes : I → List ℕ
  item_bytes x = sized (code (named x)) ++ value x

  -- the chunk of a node of them
  abbrev pub item_chunk : ℕ → ℕ → List I → List ℕ
  item_chunk kind level xs = node_bytes item_bytes kind level xs

  -- the entry above a node of them
  abbrev pub node_above : (List ℕ → Address) → (I → ℕ) → ℕ → ℕ → List I → Child
  node_above d below kind level xs = record { key = last_of (λ x. code (named x)) xs; at = d (item_chunk kind level xs); below = total_below below xs }

  -- the chunks of a level, from the left
  abbrev pub level_chunks : ℕ → ℕ → List I → List (List ℕ)
  level_chunks kind level xs = map (item_chunk kind level) (nodes (item_marked code named level) xs)

  -- the entries of the level above
  abbrev pub level_above : (List ℕ → Address) → (I → ℕ) → ℕ → ℕ → List I → List Child
  level_above d below kind level xs = map (node_above d below kind level) (nodes (item_marked code named level) xs)
