-- Lists in which each comes before the next.
use Rattle.std.proofs.Common.{◌≡◌, ℕ, zero, suc, ◌+◌, ◌<◌, Bool, true, false, List, [], ◌∷◌, ◌++◌, length, get_or, sym, refl, ◌∙◌, subst, arith}
use Rattle.std.specs.List.{AllAdjacentBelow, IsAllAdjacentAnswer}
use Rattle.table.specs.Table.{Rising}

module _ {X : Type 0} (lt : X → X → Bool) where
  pub rising_push : (us : List X) (u v : X) → Rising lt (us ++ u ∷ []) → lt u v ≡ true → Rising lt ((us ++ u ∷ []) ++ v ∷ [])
  rising_push [] u v h e = (e, tt)
  rising_push (w ∷ []) u v h e = (h.0, (e, tt))
  rising_push (w ∷ x ∷ us) u v h e = (h.0, rising_push (x ∷ us) u v h.1 e)

  pub rising_tail : (x : X) (xs : List X) → Rising lt (x ∷ xs) → Rising lt xs
  rising_tail x [] h = tt
  rising_tail x (y ∷ ys) h = h.1

  -- each comes before the next, place by place
  rising_places : (xs : List X) → AllAdjacentBelow (λ x y. true ≡ lt x y) xs (length xs) → Rising lt xs
  rising_places [] h = tt
  rising_places (x ∷ []) h = tt
  rising_places (x ∷ y ∷ ys) h = (sym (h 0 x (omega arith)), rising_places (y ∷ ys) (λ k d l. subst (λ n. true ≡ lt (get_or (y ∷ ys) k d) (get_or (x ∷ y ∷ ys) n d)) (next k) (h (suc k) d (omega (arith, l)))))
    where
      next : (k : ℕ) → suc k + 1 ≡ suc (k + 1)
      next k = omega arith

  rising_pair : (xs : List X) (k : ℕ) (d : X) → k + 1 < length xs → Rising lt xs → lt (get_or xs k d) (get_or xs (k + 1) d) ≡ true
  rising_pair [] k d l h = absurd (omega (arith, l))
  rising_pair (x ∷ []) k d l h = absurd (omega (arith, l))
  rising_pair (x ∷ y ∷ ys) zero d l h = h.0
  rising_pair (x ∷ y ∷ ys) (suc k) d l h =
      let next : suc (k + 1) ≡ suc k + 1 = omega arith in
      subst (λ n. lt (get_or (y ∷ ys) k d) (get_or (x ∷ y ∷ ys) n d) ≡ true) next (rising_pair (y ∷ ys) k d (omega (arith, l)) h.1)

  -- the answer of a test of all neighbours
  pub is_rising : (xs : List X) (r : Bool) → IsAllAdjacentAnswer (λ x y b. b ≡ lt x y) xs r → (r ≡ true → Rising lt xs) × (Rising lt xs → r ≡ true)
  is_rising xs true a = ((λ _. rising_places xs a), (λ _. refl))
  is_rising [] false a = absurd (omega (arith, a.1))
  is_rising (x ∷ xs) false a = ((λ z. absurd (cc)), (λ h. a.2 x ∙ rising_pair (x ∷ xs) a.0 x a.1 h))
