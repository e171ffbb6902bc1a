-- What building a table's tree answers and leaves.
use Rattle.std.specs.Prelude.{◌≡◌, ℕ, ◌<◌, ◌≤◌, Bool, List, map, length, Ok, Err, Result}
use Rattle.digest.specs.declared.address.Address.{Address}
use Rattle.store.specs.Meaning.{Meaning}
use Rattle.store.specs.Puts.{AllPut, StoppedAt}
use Rattle.store.specs.declared.fault.StoreFault.{StoreFault}
use Rattle.store.specs.declared.puts.Stopped.{Stopped}
use Rattle.table.specs.Table.{most_entries, Ordered, Table}
use Rattle.table.specs.declared.entry.Entry.{Entry}
use Rattle.tree_laws.specs.Layout.{Row, Child}
use Rattle.tree_laws.specs.Tree.{up, chunks_up, root, chunks}
use Rattle.tree_laws.specs.Tables.{row_of, Stands}
use Rattle.node.specs.declared.fault.TreeFault.{TreeFault}
use Rattle.node.specs.declared.fault.TreeFault.TheVariants.{Store, Malformed, Unordered, Full, Memory}
use Rattle.tree.specs.declared.upper.Built.{Built}

-- the chunks up to one that the store refused were put
pub record Stops (d : List ℕ → Address) (m : Meaning) (cs : List (List ℕ)) (f : StoreFault) (m' : Meaning) : Type 0 where
  pub stop : Stopped
  pub at : StoppedAt d m cs stop m'
  pub fault_is : stop.fault ≡ f

-- the levels above the leaves: all of their chunks were put, or those up to a refusal
abbrev pub Raises : (List ℕ → Address) → ℕ → Meaning → List Child → Result Built StoreFault → Meaning → Type 0
Raises d kind m cs (Ok b) m' = (b.root ≡ (up d kind 15 1 cs).at) × AllPut d m (chunks_up d kind 15 1 cs) b.taken m'
Raises d kind m cs (Err f) m' = Stops d m (chunks_up d kind 15 1 cs) f m'

-- a table's tree: all of its chunks were put, or those up to a refusal
abbrev pub PutsTree : (List ℕ → Address) → ℕ → Meaning → List Row → Result Built StoreFault → Meaning → Type 0
PutsTree d kind m rows (Ok b) m' = (b.root ≡ root d kind rows) × AllPut d m (chunks d kind rows) b.taken m'
PutsTree d kind m rows (Err f) m' = Stops d m (chunks d kind rows) f m'

-- for a digest, a key kind, a store's meaning and entries
module _ {K : Type 0} (d : List ℕ → Address) (kind : ℕ) (code : K → List ℕ) (before : K → K → Bool) (m : Meaning) (es : List (Entry K)) where
  abbrev pub rows : List Row
  rows = map (row_of code) es

  -- all chunks of the tree were put, and it stands
  pub record BuiltWhole (b : Built) (m' : Meaning) : Type 0 where
    pub table : Table before es
    pub put : AllPut d m (chunks d kind rows) b.taken m'
    pub stands : Stands d kind m' b.root rows

  abbrev pub Builds : Result Built TreeFault → Meaning → Type 0
  Builds (Ok b) m' = BuiltWhole b m'
  Builds (Err (Store f)) m' = Table before es × Stops d m (chunks d kind rows) f m'
  Builds (Err Malformed) m' = ⊥
  Builds (Err Unordered) m' = (length es ≤ most_entries) × (Ordered before es → ⊥) × (m' ≡ m)
  Builds (Err Full) m' = (most_entries < length es) × (m' ≡ m)
  Builds (Err Memory) m' = Table before es × (m' ≡ m)
