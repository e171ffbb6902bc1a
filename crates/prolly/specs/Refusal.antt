-- What a refusal to decode says of the digits.
use Rattle.std.specs.Prelude.{◌≡◌, ℕ, ◌%◌, ◌<◌, List, length, slice_index}
use Rattle.prolly.specs.Hexadecimal.{Digit, NonDigit}
use Rattle.prolly.specs.declared.hexadecimal.HexFault.{HexFault}
use Rattle.prolly.specs.declared.hexadecimal.HexFault.TheVariants.{Odd, NoDigit, Memory}

-- an odd number of digits; or an even one, and the first character that is no digit; want of memory says nothing
abbrev pub Refuses : HexFault → List ℕ → Type 0
Refuses Odd digits = length digits % 2 ≡ 1
Refuses (NoDigit at) digits = (length digits % 2 ≡ 0) × (at < length digits) × NonDigit (slice_index digits at) × ((k : ℕ) → k < at → Digit (slice_index digits k))
Refuses Memory digits = Unit {0}
