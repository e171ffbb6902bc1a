-- Encoded keys: their bytes and their order.
use Rattle.std.specs.Prelude.{ℕ, ◌/◌, ◌%◌, ◌^◌, Bool, true, false, cond, ◌&&◌, List, [], ◌∷◌, ℤ, ◌==◌, nat_lt}
use Rattle.std.proofs.Common.{of_z}
use Rattle.std.specs.Int.{w64}

-- 8 bytes, the highest first
abbrev pub eight_bytes : ℕ → List ℕ
eight_bytes n = n / 2 ^ 56 % 256 ∷ n / 2 ^ 48 % 256 ∷ n / 2 ^ 40 % 256 ∷ n / 2 ^ 32 % 256 ∷ n / 2 ^ 24 % 256 ∷ n / 2 ^ 16 % 256 ∷ n / 2 ^ 8 % 256 ∷ n % 256 ∷ []

-- a signed number in two's complement
abbrev pub int_code : ℤ → List ℕ
int_code z = eight_bytes (of_z w64 z)

-- bytewise, a prefix first
abbrev pub lex_before : List ℕ → List ℕ → Bool
lex_before xs [] = false
lex_before [] (y ∷ ys) = true
lex_before (x ∷ xs) (y ∷ ys) = cond (x == y) (lex_before xs ys) (nat_lt x y)

-- all of these bytes are zero
abbrev pub zeros : List ℕ → Bool
zeros [] = true
zeros (x ∷ xs) = x == 0 && zeros xs
