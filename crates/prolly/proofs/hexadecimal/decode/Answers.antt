use Rattle.std.proofs.Common.{◌≡◌, ℕ, suc, zero, ◌+◌, ◌*◌, ◌/◌, ◌%◌, ◌<◌, ◌≤◌, List, [], ◌∷◌, ◌++◌, length, get_or, take, sym, refl, ap, ◌∙◌, arith, below_more}
use Rattle.std.specs.Simd.{first_chunks}
use Rattle.std.proofs.lemmas.List.{take_more, append_assoc}
use Rattle.std.proofs.lemmas.Slice.{pushed}
use Rattle.std.proofs.lemmas.Grind.{common_steps}
use Rattle.prolly.specs.Hexadecimal.{digit_of, hex, Digit}
use Rattle.prolly.specs.Refusal.{Refuses}
use Rattle.prolly.specs.declared.hexadecimal.HexFault.TheVariants.{NoDigit}
use Rattle.prolly.proofs.hexadecimal.decode.Goals as goal

pair_at : (k i : ℕ) (xs : List ℕ) → i < k → 2 * k ≤ length xs → get_or (first_chunks 2 k xs) i [] ≡ get_or xs (2 * i) 0 ∷ get_or xs (2 * i + 1) 0 ∷ []
pair_at zero i xs below h = absurd (omega arith)
pair_at (suc k) i [] below h = absurd (omega arith)
pair_at (suc k) i (a ∷ []) below h = absurd (omega arith)
pair_at (suc k) zero (a ∷ b ∷ xs) below h = refl
pair_at (suc k) (suc i) (a ∷ b ∷ xs) below h =
    let e : 2 * suc i ≡ suc (suc (2 * i)) = omega arith in
    let o : suc (suc (2 * i)) + 1 ≡ suc (suc (2 * i + 1)) = omega arith in
    rw (e, o) (pair_at k i xs (omega arith) (omega arith))

pair : (xs : List ℕ) (ps : List (List ℕ)) (i : ℕ) → ps ≡ first_chunks 2 (length xs / 2) xs → i < length xs / 2 → get_or ps i [] ≡ get_or xs (2 * i) 0 ∷ get_or xs (2 * i + 1) 0 ∷ []
pair xs ps i is below = rw is (pair_at (length xs / 2) i xs below (omega arith))

hex_push : (bs : List ℕ) (b : ℕ) → hex (bs ++ b ∷ []) ≡ hex bs ++ digit_of (b / 16) ∷ digit_of (b % 16) ∷ []
hex_push [] b = refl
hex_push (x ∷ bs) b = ap (λ t. digit_of (x / 16) ∷ digit_of (x % 16) ∷ t) (hex_push bs b)

two_more : (xs : List ℕ) (i : ℕ) → 2 * i + 1 < length xs → take (2 * (i + 1)) xs ≡ take (2 * i) xs ++ get_or xs (2 * i) 0 ∷ get_or xs (2 * i + 1) 0 ∷ []
two_more xs i h =
    let e : 2 * (i + 1) ≡ 2 * i + 1 + 1 = omega arith in
    ap (λ n. take n xs) e ∙ take_more xs (2 * i + 1) 0 h ∙ ap (λ t. t ++ get_or xs (2 * i + 1) 0 ∷ []) (take_more xs (2 * i) 0 (omega arith)) ∙ append_assoc (take (2 * i) xs) _ _

pub returns-in_err-high : goal.returns-in_err-high
returns-in_err-high c =
    let i = c.loop-i.i in
    let xs = c.args.digits.now in
    let is = pair xs c.as_chunks.result.0.now i c.as_chunks.ensures.front (omega arith) in
    let none = rw c.in_err-high.ensures.ok_part at c.value_of.ensures in
    let no : Refuses (NoDigit (2 * i)) xs = (omega arith, omega arith, rw is at none, c.loop-i.invariant.1) in
    let e = rw c.in_err-high.ensures.ok_part at c.in_err-high.ensures.value in
    grind (arith, common_steps, e, no)

pub returns-in_err-low : goal.returns-in_err-low
returns-in_err-low c =
    let i = c.loop-i.i in
    let xs = c.args.digits.now in
    let is = pair xs c.as_chunks.result.0.now i c.as_chunks.ensures.front (omega arith) in
    let some = rw c.in_ok-high.ensures.ok_part at c.value_of.ensures in
    let high = rw is at some in
    let none = rw c.in_err-low.ensures.ok_part at c.value_of-in-loop-i.ensures in
    let P : ℕ → Type 0 = λ k. Digit (get_or xs k 0) in
    let no : Refuses (NoDigit (2 * i + 1)) xs = (omega arith, omega arith, rw is at none, below_more P (2 * i) c.loop-i.invariant.1 (c.in_ok-high.high, high.0, high.1)) in
    let e = rw c.in_err-low.ensures.ok_part at c.in_err-low.ensures.value in
    grind (arith, common_steps, e, no)

pub loop-i-preserved : goal.loop-i-preserved
loop-i-preserved c =
    let i = c.loop-i.i in
    let xs = c.args.digits.now in
    let is = pair xs c.as_chunks.result.0.now i c.as_chunks.ensures.front (omega arith) in
    let h = c.in_ok-high.high in
    let l = c.in_ok-low.low in
    let some_high = rw c.in_ok-high.ensures.ok_part at c.value_of.ensures in
    let high = rw is at some_high in
    let some_low = rw c.in_ok-low.ensures.ok_part at c.value_of-in-loop-i.ensures in
    let low = rw is at some_low in
    let b = 16 * h + l in
    let up : b / 16 ≡ h = omega (arith, high.0, low.0) in
    let down : b % 16 ≡ l = omega (arith, high.0, low.0) in
    let items = pushed (b ∷ []) refl c.in_ok-push.was c.push.ensures.items in
    let P : ℕ → Type 0 = λ k. Digit (get_or xs k 0) in (
      ap hex items
          ∙ hex_push _ b
          ∙ ap (λ t. t ++ digit_of (b / 16) ∷ digit_of (b % 16) ∷ []) c.loop-i.invariant.0
          ∙ ap (λ t. take (2 * i) xs ++ t) (cc (up, down, high.1, low.1))
          ∙ sym (two_more xs i (omega arith)),
      λ k below. below_more P (2 * i + 1) (below_more P (2 * i) c.loop-i.invariant.1 (h, high.0, high.1)) (l, low.0, low.1) k (omega arith),
    )
