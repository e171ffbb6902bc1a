-- The bytes of a node.
use Rattle.std.specs.Prelude.{ℕ, ◌/◌, ◌%◌, ◌^◌, List, [], ◌∷◌, ◌++◌, length}
use Rattle.std.specs.List.{flat_map}
use Rattle.digest.specs.declared.address.Address.{Address}
use Rattle.digest.specs.Bytes.{bytes_of}

-- an entry of a leaf: the encoded key and the cell
pub record Row : Type 0 where
  pub key : List ℕ
  pub cell : List ℕ

-- an entry of a higher node: the greatest key below, the address of the child's chunk and the number of table entries below
pub record Child : Type 0 where
  pub key : List ℕ
  pub at : Address
  pub below : ℕ

-- a number in 4 bytes, the highest first
abbrev pub four_bytes : ℕ → List ℕ
four_bytes n = n / 2 ^ 24 % 256 ∷ n / 2 ^ 16 % 256 ∷ n / 2 ^ 8 % 256 ∷ n % 256 ∷ []

-- a byte string behind its length
abbrev pub sized : List ℕ → List ℕ
sized s = length s ∷ s

-- the key length, the key, the cell length, the cell
abbrev pub row_bytes : Row → List ℕ
row_bytes r = sized r.key ++ sized r.cell

-- an address, and a number in 4 bytes
unfoldable pub link_bytes : Address → ℕ → List ℕ
link_bytes at below = bytes_of at ++ four_bytes below

-- the length of the greatest key, that key, the address, and in 4 bytes the number of table entries below
abbrev pub child_bytes : Child → List ℕ
child_bytes c = sized c.key ++ link_bytes c.at c.below

-- a node: 01, the key kind, the level, the number of entries, the entries
abbrev pub node_bytes : {X : Type 0} → (X → List ℕ) → ℕ → ℕ → List X → List ℕ
node_bytes bytes kind level xs = 1 ∷ kind ∷ level ∷ length xs ∷ flat_map bytes xs

-- a leaf has level 0
abbrev pub leaf_bytes : ℕ → List Row → List ℕ
leaf_bytes kind rs = node_bytes row_bytes kind 0 rs

-- a higher node
abbrev pub inner_bytes : ℕ → ℕ → List Child → List ℕ
inner_bytes kind level cs = node_bytes child_bytes kind level cs
