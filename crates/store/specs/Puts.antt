-- Chunks put one after another, up to the first refusal.
use Rattle.std.specs.Prelude.{◌≡◌, ℕ, ◌+◌, ◌<◌, true, List, [], ◌∷◌, length, take, is_ok, Ok, Err, fold, Result, slice_index_or}
use Rattle.digest.specs.declared.address.Address.{Address}
use Rattle.store.specs.declared.fault.Put.{Put}
use Rattle.store.specs.declared.fault.Put.TheVariants.{Held, Taken}
use Rattle.store.specs.declared.fault.StoreFault.{StoreFault}
use Rattle.store.specs.declared.puts.Stopped.{Stopped}
use Rattle.store.specs.Meaning.{Meaning, put_answer, put_after, OrMemory}

-- the meaning after all the chunks were put in turn
abbrev pub puts_after : (List ℕ → Address) → Meaning → List (List ℕ) → Meaning
puts_after d m cs = fold (put_after d) m cs

-- each of the chunks in turn is to be accepted
abbrev pub Accepts : (List ℕ → Address) → Meaning → List (List ℕ) → Type 0
Accepts d m [] = Unit {0}
Accepts d m (c ∷ cs) = (is_ok (put_answer d m c) ≡ true) × Accepts d (put_after d m c) cs

-- the address of an accepted chunk
abbrev pub address_in : Put → Address
address_in (Held a) = a
address_in (Taken a) = a

-- 1 for a chunk that was taken
abbrev pub takes : Result Put StoreFault → ℕ
takes (Ok (Held a)) = 0
takes (Ok (Taken a)) = 1
takes (Err e) = 0

-- how many of the chunks are taken, put in turn
abbrev pub taken_of : (List ℕ → Address) → Meaning → List (List ℕ) → ℕ
taken_of d m [] = 0
taken_of d m (c ∷ cs) = takes (put_answer d m c) + taken_of d (put_after d m c) cs

-- the first chunks were accepted and stay, and the next was refused
pub record StoppedAt (d : List ℕ → Address) (m : Meaning) (cs : List (List ℕ)) (s : Stopped) (m' : Meaning) : Type 0 where
  pub within : s.accepted < length cs
  pub before : Accepts d m (take s.accepted cs)
  pub taken_before : s.taken ≡ taken_of d m (take s.accepted cs)
  pub after : m' ≡ puts_after d m (take s.accepted cs)
  pub refused : OrMemory (put_answer d (puts_after d m (take s.accepted cs)) (slice_index_or cs s.accepted [])) (Err s.fault)

-- all of the chunks were accepted
pub record AllPut (d : List ℕ → Address) (m : Meaning) (cs : List (List ℕ)) (n : ℕ) (m' : Meaning) : Type 0 where
  pub accepted : Accepts d m cs
  pub count : n ≡ taken_of d m cs
  pub after : m' ≡ puts_after d m cs

abbrev pub PutsInTurn : (List ℕ → Address) → Meaning → List (List ℕ) → Result ℕ Stopped → Meaning → Type 0
PutsInTurn d m cs (Ok n) m' = AllPut d m cs n m'
PutsInTurn d m cs (Err s) m' = StoppedAt d m cs s m'
