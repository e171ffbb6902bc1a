-- The library's rotation of a word is the standard's, where it is by less than the word.
use Rattle.std.proofs.Common.{◌≡◌, ℕ, ◌-◌, ◌*◌, ◌/◌, ◌%◌, ◌^◌, ◌<◌, bit_or, w32, ap, ◌∙◌, arith}
use Rattle.std.specs.Int.{rotate_right}
use Rattle.digest.specs.Sha256.{rotr}

pub rotr_by : (n x : ℕ) → 0 < n → n < 32 → rotate_right w32 x n ≡ rotr n x
rotr_by n x positive within =
    let same : n % 32 ≡ n = omega arith in
    let back : (32 - n) % 32 ≡ 32 - n = omega arith in
    ap (λ k. bit_or (x / 2 ^ k) (x * 2 ^ ((32 - k) % 32) % 2 ^ 32)) same ∙ ap (λ k. bit_or (x / 2 ^ n) (x * 2 ^ k % 2 ^ 32)) back
