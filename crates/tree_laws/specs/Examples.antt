-- Small tables, worked out.
use Rattle.std.specs.Prelude.{◌≡◌, ℕ, true, false, List, [], ◌∷◌, map}
use Rattle.digest.specs.declared.address.Address.{Address}
use Rattle.digest.specs.Fnv.{fnv32}
use Rattle.tree_laws.specs.Boundary.{marked}
use Rattle.tree_laws.specs.Layout.{Row, Child, leaf_bytes, inner_bytes}
use Rattle.tree_laws.specs.Tree.{leaves, leaf_child, inner_child, root, chunks, Rises}

-- a row whose key is one byte
abbrev pub row : ℕ → List ℕ → Row
row k cell = record { key = k ∷ []; cell = cell }

-- keys at level 0
pub record KeyExamples : Type 0 where
  pub hash_none : fnv32 (0 ∷ []) ≡ 0x050c5d1f
  pub hash_01 : fnv32 (0 ∷ 1 ∷ []) ≡ 0x1076963a
  pub hash_02 : fnv32 (0 ∷ 2 ∷ []) ≡ 0x0f7694a7
  pub mark_none : marked 0 [] ≡ true
  pub mark_01 : marked 0 (1 ∷ []) ≡ false
  pub mark_02 : marked 0 (2 ∷ []) ≡ true

-- rows with the keys 02 and 03 and any cells
pub record TwoRows (d : List ℕ → Address) (kind : ℕ) (y z : List ℕ) : Type 0 where
  pub leaf : leaves (row 2 y ∷ row 3 z ∷ []) ≡ (row 2 y ∷ row 3 z ∷ []) ∷ []
  pub rises : Rises d kind 1 (map (leaf_child d kind) (leaves (row 2 y ∷ row 3 z ∷ []))) 0 (leaf_child d kind (row 2 y ∷ row 3 z ∷ []))
  pub chunk : chunks d kind (row 2 y ∷ row 3 z ∷ []) ≡ leaf_bytes kind (row 2 y ∷ row 3 z ∷ []) ∷ []
  pub root_is : root d kind (row 2 y ∷ row 3 z ∷ []) ≡ d (leaf_bytes kind (row 2 y ∷ row 3 z ∷ []))

-- the entries of the root where the key 01 is added
abbrev pub children : (List ℕ → Address) → ℕ → List ℕ → List ℕ → List ℕ → List Child
children d kind x y z = leaf_child d kind (row 1 x ∷ row 2 y ∷ []) ∷ leaf_child d kind (row 3 z ∷ []) ∷ []

-- that adds a leaf, and a root of level 1 over the two
pub record ThreeRows (d : List ℕ → Address) (kind : ℕ) (x y z : List ℕ) : Type 0 where
  pub two_leaves : leaves (row 1 x ∷ row 2 y ∷ row 3 z ∷ []) ≡ (row 1 x ∷ row 2 y ∷ []) ∷ (row 3 z ∷ []) ∷ []
  pub rises : Rises d kind 1 (map (leaf_child d kind) (leaves (row 1 x ∷ row 2 y ∷ row 3 z ∷ []))) 1 (inner_child d kind 1 (children d kind x y z))
  pub three_chunks : chunks d kind (row 1 x ∷ row 2 y ∷ row 3 z ∷ []) ≡ leaf_bytes kind (row 1 x ∷ row 2 y ∷ []) ∷ leaf_bytes kind (row 3 z ∷ []) ∷ inner_bytes kind 1 (children d kind x y z) ∷ []
  pub root_is : root d kind (row 1 x ∷ row 2 y ∷ row 3 z ∷ []) ≡ d (inner_bytes kind 1 (children d kind x y z))

pub record Examples : Type 0 where
  pub keys : KeyExamples
  pub two_rows : (d : List ℕ → Address) (kind : ℕ) (y z : List ℕ) → TwoRows d kind y z
  pub three_rows : (d : List ℕ → Address) (kind : ℕ) (x y z : List ℕ) → ThreeRows d kind x y z
  -- the row with key 02 and cell 07, for key kind 2, and the empty table
  pub one_row : (d : List ℕ → Address) → chunks d 2 (row 2 (7 ∷ []) ∷ []) ≡ (1 ∷ 2 ∷ 0 ∷ 1 ∷ 1 ∷ 2 ∷ 1 ∷ 7 ∷ []) ∷ []
  pub no_rows : (d : List ℕ → Address) → chunks d 2 [] ≡ (1 ∷ 2 ∷ 0 ∷ 0 ∷ []) ∷ []
