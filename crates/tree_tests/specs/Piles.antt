-- A table's tree built into a fresh pile.
use Rattle.std.specs.Prelude.{ℕ, Bool, List, Result}
use Rattle.digest.specs.declared.address.Address.{Address}
use Rattle.store.specs.Meaning.{Meaning, checked, fallen}
use Rattle.memory.specs.Table.{empty}
use Rattle.node.specs.declared.fault.TreeFault.{TreeFault}
use Rattle.table.specs.declared.entry.Entry.{Entry}
use Rattle.tree.specs.Build.{Builds}
use Rattle.tree.specs.declared.upper.Built.{Built}

-- a checked front of u units before an empty back, and all of it checked once more
abbrev pub fresh : (List ℕ → Address) → ℕ → Meaning
fresh d u = checked d (fallen (checked d (empty u)) (empty 0))

-- what building into it answers, with some meaning after
abbrev pub BuildsFresh : {K : Type 0} → (List ℕ → Address) → ℕ → (K → List ℕ) → (K → K → Bool) → ℕ → List (Entry K) → Result Built TreeFault → Type 0
BuildsFresh d kind code before u es r = (m : Meaning) × Builds d kind code before (fresh d u) es r m
