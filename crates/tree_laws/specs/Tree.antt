-- The tree of a table: its nodes level by level, its chunks in the order in which they are put, and its root.
use Rattle.std.specs.Prelude.{◌≡◌, ℕ, zero, suc, ◌+◌, Bool, ◌⊎◌, List, [], ◌∷◌, ◌++◌, map, length, ◌≢◌}
use Rattle.digest.specs.declared.address.Address.{Address}
use Rattle.tree_laws.specs.Boundary.{marked, nodes}
use Rattle.tree_laws.specs.Layout.{Row, Child, leaf_bytes, inner_bytes}

-- the greatest key of entries in key order: the last one's
abbrev pub last_of : {X : Type 0} → (X → List ℕ) → List X → List ℕ
last_of f [] = []
last_of f (x ∷ []) = f x
last_of f (x ∷ y ∷ ys) = last_of f (y ∷ ys)

-- the number of table entries below some children
abbrev pub sum_below : List Child → ℕ
sum_below [] = 0
sum_below (c ∷ cs) = c.below + sum_below cs

abbrev pub row_marked : Row → Bool
row_marked r = marked 0 r.key

abbrev pub child_marked : ℕ → Child → Bool
child_marked level c = marked level c.key

-- the leaves of a table: the empty table has one without entries
abbrev pub leaves : List Row → List (List Row)
leaves [] = [] ∷ []
leaves (r ∷ rs) = nodes row_marked (r ∷ rs)

-- P holds of a member
abbrev pub Some : {X : Type 0} → (X → Type 0) → List X → Type 0
Some P [] = ⊥
Some P (x ∷ xs) = P x ⊎ Some P xs

-- the tree for a digest d and a key kind
module _ (d : List ℕ → Address) (kind : ℕ) where
  -- the entry above a leaf
  abbrev pub leaf_child : List Row → Child
  leaf_child rs = record { key = last_of (λ r. r.key) rs; at = d (leaf_bytes kind rs); below = length rs }

  -- the entry above a higher node
  abbrev pub inner_child : ℕ → List Child → Child
  inner_child level cs = record { key = last_of (λ c. c.key) cs; at = d (inner_bytes kind level cs); below = sum_below cs }

  -- the entries of the next level: the nodes of this one
  abbrev pub next : ℕ → List Child → List Child
  next level cs = map (inner_child level) (nodes (child_marked level) cs)

  -- the root, from the entries of a level: the first level with exactly one node has it. At most `fuel` levels are made
  abbrev pub up : ℕ → ℕ → List Child → Child
  up fuel level [] = inner_child level []
  up fuel level (c ∷ []) = c
  up zero level (c ∷ e ∷ es) = c
  up (suc fuel) level (c ∷ e ∷ es) = up fuel (suc level) (next level (c ∷ e ∷ es))

  -- the chunks of the levels from this one up, in the order in which they are put
  abbrev pub chunks_up : ℕ → ℕ → List Child → List (List ℕ)
  chunks_up fuel level [] = []
  chunks_up fuel level (c ∷ []) = []
  chunks_up zero level (c ∷ e ∷ es) = []
  chunks_up (suc fuel) level (c ∷ e ∷ es) =
      map (inner_bytes kind level) (nodes (child_marked level) (c ∷ e ∷ es)) ++ chunks_up fuel (suc level) (next level (c ∷ e ∷ es))

  -- the root address of a table's tree
  abbrev pub root : List Row → Address
  root rs = (up 15 1 (map leaf_child (leaves rs))).at

  -- the chunks of a table's tree, level by level from the leaves, left to right
  abbrev pub chunks : List Row → List (List ℕ)
  chunks rs = map (leaf_bytes kind) (leaves rs) ++ chunks_up 15 1 (map leaf_child (leaves rs))

  -- two chunks, one of each list, that differ and have one address
  abbrev pub Collision : List (List ℕ) → List (List ℕ) → Type 0
  Collision xs ys = Some (λ x. Some (λ y. (x ≢ y) × (d x ≡ d y)) ys) xs

-- the root by the rule: these entries of level l come to a root of level t
pub data Rises (d : List ℕ → Address) (kind : ℕ) : ℕ → List Child → ℕ → Child → Type 0 where
  one : {l : ℕ} {c : Child} → Rises d kind (suc l) (c ∷ []) l c
  more : {l t : ℕ} {c e : Child} {es : List Child} {r : Child} → Rises d kind (suc l) (next d kind l (c ∷ e ∷ es)) t r → Rises d kind l (c ∷ e ∷ es) t r
