-- Byte strings as lowercase hexadecimal digits.
use Rattle.std.specs.Prelude.{◌≡◌, ℕ, ◌+◌, ◌/◌, ◌%◌, ◌<◌, cond, ◌⊎◌, List, [], ◌∷◌, ◌≢◌, nat_lt}

-- the digit of a number below 16: 0 to 9, then a to f
abbrev pub digit_of : ℕ → ℕ
digit_of d = cond (nat_lt d 10) (48 + d) (87 + d)

-- two digits for each byte, the higher first
abbrev pub hex : List ℕ → List ℕ
hex [] = []
hex (b ∷ bs) = digit_of (b / 16) ∷ digit_of (b % 16) ∷ hex bs

-- a character that is a digit, and one that is none
abbrev pub Digit : ℕ → Type 0
Digit b = (d : ℕ) × (d < 16) × (digit_of d ≡ b)

abbrev pub NonDigit : ℕ → Type 0
NonDigit b = (d : ℕ) → d < 16 → digit_of d ≢ b

-- a word of a script and the byte string that it means: `-` is the empty one, any other word is its digits
abbrev pub Spells : List ℕ → List ℕ → Type 0
Spells word bytes = ((word ≡ 45 ∷ []) × (bytes ≡ [])) ⊎ (hex bytes ≡ word)
