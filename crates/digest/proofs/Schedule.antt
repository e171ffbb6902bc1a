-- The schedule: what is there stays, and each later word comes from the sixteen before it.
use Rattle.std.proofs.Common.{◌≡◌, ℕ, zero, suc, ◌+◌, ◌-◌, ◌<◌, ◌≤◌, List, [], length, get_or, sym, ap, ◌∙◌, add-zero, add-suc, arith}
use Rattle.std.proofs.lemmas.List.{length_push, get_or_at, get_or_append_left}
use Rattle.digest.specs.Sha256.{next_word, schedule, word}

pub schedule_length : (m : List ℕ) (n : ℕ) → length (schedule m n) ≡ length m + n
unfolding schedule
schedule_length m zero = sym (add-zero (length m))
schedule_length m (suc n) = length_push (schedule m n) _ ∙ (let e = schedule_length m n in omega (arith, e))

-- what is there stays
pub schedule_stable : (m : List ℕ) (n k i : ℕ) → i < length m + n → get_or (schedule m (n + k)) i 0 ≡ get_or (schedule m n) i 0
unfolding schedule
schedule_stable m n zero i h = ap (λ j. get_or (schedule m j) i 0) (add-zero n)
schedule_stable m n (suc k) i h =
    ap (λ j. get_or (schedule m j) i 0) (add-suc n k)
    ∙ get_or_append_left (schedule m (n + k)) _ 0 i (omega (arith, schedule_length m (n + k)))
    ∙ schedule_stable m n k i h

module _ (m : List ℕ) (long : length m ≡ 16) where
  at : (n i : ℕ) → n ≤ 48 → i < 16 + n → word m i ≡ get_or (schedule m n) i 0
  at n i h l =
      let e : n + (48 - n) ≡ 48 = omega arith in
      sym (ap (λ j. get_or (schedule m j) i 0) e) ∙ schedule_stable m n (48 - n) i (omega arith)

  pub word_own : (i : ℕ) → i < 16 → word m i ≡ get_or m i 0
  unfolding schedule
  word_own i h = at 0 i (omega arith) (omega arith)

  pub word_next : (n : ℕ) → n < 48 → word m (n + 16) ≡ next_word (word m (n + 14)) (word m (n + 9)) (word m (n + 1)) (word m n)
  unfolding schedule
  word_next n h =
      at (suc n) (n + 16) (omega arith) (omega arith)
      ∙ get_or_at (schedule m n) _ [] 0 (n + 16) (schedule_length m n ∙ omega arith)
      ∙ (let p = at n (n + 14) (omega arith) (omega arith) in let q = at n (n + 9) (omega arith) (omega arith) in let r = at n (n + 1) (omega arith) (omega arith) in let s = at n n (omega arith) (omega arith) in cc)

  pub word_at : (t : ℕ) → 16 ≤ t → t < 64 → word m t ≡ next_word (word m (t - 2)) (word m (t - 7)) (word m (t - 15)) (word m (t - 16))
  word_at t low high =
      let n : ℕ = t - 16 in
      let e0 : n + 16 ≡ t = omega arith in
      let e1 : n + 14 ≡ t - 2 = omega arith in
      let e2 : n + 9 ≡ t - 7 = omega arith in
      let e3 : n + 1 ≡ t - 15 = omega arith in
      let it = word_next n (omega arith) in
      cc
