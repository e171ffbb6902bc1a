use Rattle.std.proofs.Common.{◌≡◌, ℕ, ◌*◌, ◌<◌, get_or, take, vec_items}
use Rattle.prolly.specs.Hexadecimal.{hex, Digit}
use Rattle.prolly.proofs.hexadecimal.decode.Given as goal

abbrev pub invariant-loop-i : goal.invariant-loop-i
invariant-loop-i l = (hex (vec_items l.bytes) ≡ take (2 * l.i) l.digits) × ((k : ℕ) → k < 2 * l.i → Digit (get_or l.digits k 0))
