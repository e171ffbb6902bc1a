-- What a chunk store means, and what its calls do to that.
use Rattle.std.specs.Prelude.{◌≡◌, ℕ, ◌+◌, ◌-◌, ◌/◌, ◌≤◌, Bool, true, cond, ◌⊎◌, List, ◌++◌, length, drop, is_ok, Ok, Err, Result, ◌==◌, nat_lt, nat_eq}
use Rattle.std.specs.Cmp.Lexicographic.{pointwise}
use Rattle.digest.specs.declared.address.Address.{Address}
use Rattle.digest.specs.Bytes.{same_address}
use Rattle.store.specs.Faults.{zero_address}
use Rattle.store.specs.declared.fault.Put.{Put}
use Rattle.store.specs.declared.fault.Put.TheVariants.{Held, Taken}
use Rattle.store.specs.declared.fault.StoreFault.{StoreFault}
use Rattle.store.specs.declared.fault.StoreFault.TheVariants.{TooLong, Collision, Bad, NoRoom, Absent, Short, Stale, Memory}

-- what an address gives
pub data Slot : Type 0 where
  nothing : Slot
  chunk : List ℕ → Slot
  bad : Slot

-- a store, as its callers see it: what each address gives, the free units, and the root
pub record Meaning : Type 0 where
  pub at : Address → Slot
  pub free : ℕ
  pub root : Address

-- a chunk has at most so many bytes
abbrev pub longest : ℕ
longest = 2488

-- a store has at most so many units
abbrev pub most_units : ℕ
most_units = 1048576

-- the units that a chunk of n bytes costs: (32 + n) / 504, rounded up
abbrev pub cost : ℕ → ℕ
cost n = (32 + n + 503) / 504

-- whether two strings are as long as one another and have the same bytes, as `==` of slices says it
abbrev pub same_bytes : List ℕ → List ℕ → Bool
same_bytes xs ys = pointwise nat_eq xs ys

-- the meaning with a chunk more at a, and n units less
abbrev pub added : Meaning → Address → List ℕ → ℕ → Meaning
added m a c n = record { at = λ b. cond (same_address b a) (chunk c) (m.at b); free = m.free - n; root = m.root }

-- what put answers where the slot at the chunk's address a is known
abbrev pub put_at : Slot → ℕ → Address → List ℕ → Result Put StoreFault
put_at nothing free a c = cond (nat_lt free (cost (length c))) (Err (NoRoom a)) (Ok (Taken a))
put_at (chunk old) free a c = cond (same_bytes old c) (Ok (Held a)) (Err (Collision a))
put_at bad free a c = Err (Bad a)

-- what put answers, for the digest d
abbrev pub put_answer : (List ℕ → Address) → Meaning → List ℕ → Result Put StoreFault
put_answer d m c = cond (nat_lt longest (length c)) (Err TooLong) (put_at (m.at (d c)) m.free (d c) c)

-- what put leaves, by what it answered: only a chunk that was taken changes anything
abbrev pub after_put : (List ℕ → Address) → Meaning → List ℕ → Result Put StoreFault → Meaning
after_put d m c (Ok (Held b)) = m
after_put d m c (Ok (Taken b)) = added m (d c) c (cost (length c))
after_put d m c (Err e) = m

-- what put is to leave
abbrev pub put_after : (List ℕ → Address) → Meaning → List ℕ → Meaning
put_after d m c = after_put d m c (put_answer d m c)

-- a call that is to answer `answer` may do so, or refuse for want of memory where it would have accepted
abbrev pub OrMemory : {A : Type 0} → Result A StoreFault → Result A StoreFault → Type 0
OrMemory answer (Ok x) = answer ≡ Ok x
OrMemory answer (Err e) = (answer ≡ Err e) ⊎ ((e ≡ Memory) × (is_ok answer ≡ true))

-- what get answers where the slot at a is known, for a buffer of n bytes
abbrev pub get_at : Slot → Address → ℕ → Result ℕ StoreFault
get_at nothing a n = Err (Absent a)
get_at (chunk c) a n = cond (nat_lt n (length c)) (Err (Short a)) (Ok (length c))
get_at bad a n = Err (Bad a)

abbrev pub get_answer : Meaning → Address → ℕ → Result ℕ StoreFault
get_answer m a n = get_at (m.at a) a n

-- what get leaves in the buffer: the chunk at its start where it fits, and the rest as it was
abbrev pub write_at : Slot → List ℕ → List ℕ
write_at nothing b = b
write_at (chunk c) b = cond (nat_lt (length b) (length c)) b (c ++ drop (length c) b)
write_at bad b = b

abbrev pub get_buffer : Meaning → Address → List ℕ → List ℕ
get_buffer m a b = write_at (m.at a) b

-- an accepted get wrote no more than k bytes
abbrev pub Within : Result ℕ StoreFault → ℕ → Type 0
Within (Ok n) k = n ≤ k
Within (Err e) k = Unit {0}

-- what set-root answers: the root has to be old, and then a unit free
abbrev pub set_answer : Meaning → Address → Result (Unit {0}) StoreFault
set_answer m old = cond (same_address m.root old) (cond (m.free == 0) (Err (NoRoom zero_address)) (Ok tt)) (Err Stale)

-- what set-root leaves, by what it answered
abbrev pub after_set : Meaning → Address → Result (Unit {0}) StoreFault → Meaning
after_set m new (Ok u) = record { at = m.at; free = m.free - 1; root = new }
after_set m new (Err e) = m

-- what a slot is to a reader who checks the digest: a chunk whose digest is not its address is bad
abbrev pub checked_slot : (List ℕ → Address) → Address → Slot → Slot
checked_slot d a nothing = nothing
checked_slot d a (chunk c) = cond (same_address (d c) a) (chunk c) bad
checked_slot d a bad = bad

abbrev pub checked : (List ℕ → Address) → Meaning → Meaning
checked d m = record { at = λ a. checked_slot d a (m.at a); free = m.free; root = m.root }

-- the front's chunk, else the back's chunk, else bad if either has bad, else nothing
abbrev pub fall_slot : Slot → Slot → Slot
fall_slot (chunk c) s = chunk c
fall_slot nothing s = s
fall_slot bad nothing = bad
fall_slot bad (chunk c) = chunk c
fall_slot bad bad = bad

-- free units and root are the front's
abbrev pub fallen : Meaning → Meaning → Meaning
fallen f b = record { at = λ a. fall_slot (f.at a) (b.at a); free = f.free; root = f.root }
