-- The bytes of a reading, of which its addresses are taken.
use Rattle.std.specs.Prelude.{ℕ, List, ◌∷◌, ◌++◌, length, ℤ}
use Rattle.std.proofs.Common.{of_z}
use Rattle.std.specs.Int.{w64}
use Rattle.digest.specs.Bytes.{word_bytes}

-- a signed number in 8 bytes, two's complement, the highest byte first
abbrev pub signed_bytes : ℤ → List ℕ
signed_bytes z = word_bytes (of_z w64 z)

-- the tag's length in one byte, the tag, the time and the value
abbrev pub record_bytes : List ℕ → ℤ → ℤ → List ℕ
record_bytes tag time value = length tag ∷ (tag ++ (signed_bytes time ++ signed_bytes value))
