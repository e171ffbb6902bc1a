-- What a fresh pile does with a chunk that is put and then read.
use Rattle.std.specs.Prelude.{◌≡◌, ℕ, ◌<◌, ◌⊎◌, List, ◌++◌, length, drop, Ok, Err, Result}
use Rattle.digest.specs.declared.address.Address.{Address}
use Rattle.store.specs.declared.fault.Put.TheVariants.{Taken}
use Rattle.store.specs.declared.fault.StoreFault.{StoreFault}
use Rattle.store.specs.declared.fault.StoreFault.TheVariants.{Short}
use Rattle.store.specs.Meaning.{put_answer, OrMemory}
use Rattle.memory.specs.Table.{empty}

-- with n units free: the chunk c is taken and comes back at the buffer's start, or the put was refused, or the buffer was short
abbrev pub Keeps : (List ℕ → Address) → ℕ → List ℕ → List ℕ → Result ℕ StoreFault → List ℕ → Type 0
Keeps d n c b (Ok k) b' = (put_answer d (empty n) c ≡ Ok (Taken (d c))) × (k ≡ length c) × (b' ≡ c ++ drop (length c) b)
Keeps d n c b (Err e) b' = (b' ≡ b) × (OrMemory (put_answer d (empty n) c) (Err e) ⊎ ((e ≡ Short (d c)) × (length b < length c)))
