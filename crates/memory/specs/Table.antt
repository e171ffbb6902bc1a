-- What a memory table holds, by its parts.
use Rattle.std.specs.Prelude.{◌≡◌, ℕ, ◌/◌, ◌≤◌, min, List, length, Some, None, vec_items, Option, Vec}
use Rattle.std.specs.HashMap.{HashMap, get}
use Rattle.digest.specs.declared.address.Address.{Address}
use Rattle.digest.specs.Bytes.{same_address}
use Rattle.store.specs.Faults.{zero_address}
use Rattle.store.specs.Meaning.{Meaning, Slot, nothing, chunk}

abbrev pub slot_of : {W : Type 0} → Option (Vec ℕ W) → Slot
slot_of None = nothing
slot_of (Some v) = chunk (vec_items v)

module _ {W S : Type 0} where
  -- the chunk at an address
  abbrev pub held : HashMap Address (Vec ℕ W) S → Address → Slot
  held chunks a = slot_of (get same_address chunks a)

  abbrev pub Small : HashMap Address (Vec ℕ W) S → Type 0
  Small chunks = (a : Address) (c : List ℕ) → held chunks a ≡ chunk c → length c ≤ 2488

  abbrev pub means : HashMap Address (Vec ℕ W) S → ℕ → Address → Meaning
  means chunks free root = record { at = held chunks; free = free; root = root }

-- the units of a budget of bytes
abbrev pub units : ℕ → ℕ
units bytes = min (bytes / 512) 1048576

abbrev pub empty : ℕ → Meaning
empty free = record { at = λ _. nothing; free = free; root = zero_address }
