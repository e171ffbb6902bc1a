-- The tree of a table over any lawful key kind, and what its root address tells.
use Rattle.std.specs.Prelude.{◌≡◌, ℕ, Bool, ◌⊎◌, List, map}
use Rattle.digest.specs.declared.address.Address.{Address}
use Rattle.store.specs.Meaning.{Meaning}
use Rattle.store.specs.Laws.{AllHeld}
use Rattle.table.specs.Of.{cell_bytes}
use Rattle.table.specs.Table.{Table, EqualTables}
use Rattle.table.specs.declared.entry.Entry.{Entry}
use Rattle.tree_laws.specs.Layout.{Row}
use Rattle.tree_laws.specs.Tree.{root, chunks, Collision}

-- the row of an entry: its key encoded, and its cell
abbrev pub row_of : {K : Type 0} → (K → List ℕ) → Entry K → Row
row_of code e = record { key = code e.key; cell = cell_bytes e.cell }

-- a tree stands in a store: its root is at this address, and every chunk of it is at its own
pub record Stands (d : List ℕ → Address) (kind : ℕ) (m : Meaning) (at : Address) (rows : List Row) : Type 0 where
  pub root_is : at ≡ root d kind rows
  pub held : AllHeld d m (chunks d kind rows)

-- for a digest and a key kind with its encoding and order
module _ {K : Type 0} (d : List ℕ → Address) (kind : ℕ) (code : K → List ℕ) (before : K → K → Bool) where
  abbrev pub table_root : List (Entry K) → Address
  table_root es = root d kind (map (row_of code) es)

  abbrev pub table_chunks : List (Entry K) → List (List ℕ)
  table_chunks es = chunks d kind (map (row_of code) es)

  pub record RootLaws : Type 0 where
    -- equal tables have equal roots
    pub alike : (xs ys : List (Entry K)) → Table before xs → Table before ys → EqualTables before xs ys → table_root xs ≡ table_root ys
    -- equal roots mean equal tables, or two chunks, one of each tree, that differ and have one address
    pub told : (xs ys : List (Entry K)) → Table before xs → Table before ys → table_root xs ≡ table_root ys → EqualTables before xs ys ⊎ Collision d kind (table_chunks xs) (table_chunks ys)
    -- in one store, which has one chunk at an address, a root address has one table
    pub single : (m : Meaning) (a : Address) (xs ys : List (Entry K)) → Table before xs → Table before ys → Stands d kind m a (map (row_of code) xs) → Stands d kind m a (map (row_of code) ys) → EqualTables before xs ys
