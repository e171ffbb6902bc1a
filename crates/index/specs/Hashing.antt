-- What the library's hash map takes of an address.
use Rattle.std.specs.Prelude.{ℕ, ◌+◌, ◌*◌, ◌/◌, ◌%◌, ◌^◌, cond, List, length, take, nat_le}
use Rattle.std.specs.Int.{w64, from_le_bytes}

-- the first eight bytes as one number, the lowest first; 0 where there are fewer
abbrev pub word_of : List ℕ → ℕ
word_of bs = cond (nat_le 8 (length bs)) (from_le_bytes w64 (take 8 bs)) 0

-- the low 24 bits of the first word, and above them the highest 8 of the sum's product with an odd number
abbrev pub hash_of : ℕ → ℕ → ℕ
hash_of first sum = first % 2 ^ 24 + sum * 0x9e3779b97f4a7c15 % 2 ^ 64 / 2 ^ 56 * 2 ^ 24
