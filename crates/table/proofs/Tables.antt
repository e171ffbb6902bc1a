-- Tables that agree at every key have the same entries.
use Rattle.std.proofs.Common.{◌≡◌, ℕ, Bool, true, false, not, List, [], ◌∷◌, Some, None, Option, sym, refl, ap, ◌∙◌, subst, ⊎_elim, arith}
use Rattle.std.proofs.lemmas.Bool.{cases_Bool, cond-true, cond-false, and_parts, and_from}
use Rattle.table.specs.declared.cell.Cell.{Cell}
use Rattle.table.specs.declared.entry.Entry.{Entry}
use Rattle.table.specs.Table.{same_key, Ordered, cell_at, EqualTables, ByKey}

not_true : (b : Bool) → not b ≡ true → b ≡ false
not_true true e = sym e
not_true false e = refl

from_false : (b : Bool) → b ≡ false → not b ≡ true
from_false true e = sym e
from_false false e = refl

some_none : {X : Type 0} (x : X) → Some x ≡ None → ⊥
some_none x e = let z : ◌≡◌ {A = ℕ} 0 1 = cc in omega arith

true_false : (b : Bool) → b ≡ true → b ≡ false → ⊥
true_false b p q = let z : ◌≡◌ {A = ℕ} 0 1 = cc in omega arith

module _ {K : Type 0} (before : K → K → Bool) (strict : (x : K) → before x x ≡ false)
    (chain : (x y z : K) → before x y ≡ true → before y z ≡ true → before x z ≡ true)
    (total : (x y : K) → before x y ≡ false → before y x ≡ false → x ≡ y) where
  -- the key comes before each of these
  abbrev Above : K → List (Entry K) → Type 0
  Above k [] = Unit {0}
  Above k (e ∷ es) = (before k e.key ≡ true) × Above k es

  above_chain : (j k : K) (es : List (Entry K)) → before j k ≡ true → Above k es → Above j es
  above_chain j k [] h a = tt
  above_chain j k (e ∷ es) h a = (chain j k e.key h a.0, above_chain j k es h a.1)

  -- the first of entries in order comes before each other
  first_below : (e : Entry K) (es : List (Entry K)) → Ordered before (e ∷ es) → Above e.key es
  first_below e [] h = tt
  first_below e (f ∷ fs) h = (h.0, above_chain e.key f.key fs h.0 (first_below f fs h.1))

  others : (e : Entry K) (es : List (Entry K)) → Ordered before (e ∷ es) → Ordered before es
  others e [] h = tt
  others e (f ∷ fs) h = h.1

  same_self : (k : K) → same_key before k k ≡ true
  same_self k = let n = from_false (before k k) (strict k) in and_from (not (before k k)) (not (before k k)) n n

  same_is : (x y : K) → same_key before x y ≡ true → x ≡ y
  same_is x y e = let p = and_parts (not (before x y)) (not (before y x)) e in total x y (not_true (before x y) p.0) (not_true (before y x) p.1)

  -- what is found behind a key comes behind it
  found_above : (k : K) (es : List (Entry K)) (q : K) (c : Cell) → Above k es → cell_at before es q ≡ Some c → before k q ≡ true
  found_above k [] q c a f = absurd (some_none c (sym f))
  found_above k (e ∷ es) q c a f =
      ⊎_elim
      (λ (s : same_key before e.key q ≡ true). subst (λ w. before k w ≡ true) (same_is e.key q s) a.0)
      (λ (s : same_key before e.key q ≡ false). found_above k es q c a.1 (sym (cond-false _ _ _ s) ∙ f))
      (cases_Bool (same_key before e.key q))

  none_above : (k : K) (es : List (Entry K)) → Above k es → cell_at before es k ≡ None
  none_above k es a = at (cell_at before es k) refl
    where
      at : (o : Option Cell) → cell_at before es k ≡ o → o ≡ None
      at None e = refl
      at (Some c) e = absurd (true_false (before k k) (found_above k es k c a e) (strict k))

  head_at : (e : Entry K) (es : List (Entry K)) → cell_at before (e ∷ es) e.key ≡ Some e.cell
  head_at e es = cond-true _ _ _ (same_self e.key)

  tail_at : (e : Entry K) (es : List (Entry K)) (q : K) → same_key before e.key q ≡ false → cell_at before (e ∷ es) q ≡ cell_at before es q
  tail_at e es q s = cond-false _ _ _ s

  heads : (x y : Entry K) (xs ys : List (Entry K)) → Above x.key xs → Above y.key ys
      → EqualTables before (x ∷ xs) (y ∷ ys) → x ≡ y
  heads x y xs ys ax ay h =
      ⊎_elim
      (λ (s : same_key before y.key x.key ≡ true).
      let k : y.key ≡ x.key = same_is y.key x.key s in
      let c : Some x.cell ≡ Some y.cell = sym (head_at x xs) ∙ (h x.key ∙ cond-true _ _ _ s) in
      let cc' : x.cell ≡ y.cell = cc in
      λ i. record { key = sym k i; cell = cc' i })
      (λ (s : same_key before y.key x.key ≡ false).
      let fx : cell_at before ys x.key ≡ Some x.cell = sym (tail_at y ys x.key s) ∙ (sym (h x.key) ∙ head_at x xs) in
      let yx = found_above y.key ys x.key x.cell ay fx in
      let t : same_key before x.key y.key ≡ false = apart x y yx in
      let fy : cell_at before xs y.key ≡ Some y.cell = sym (tail_at x xs y.key t) ∙ (h y.key ∙ head_at y ys) in
      let xy = found_above x.key xs y.key y.cell ax fy in
      absurd (true_false (before x.key x.key) (chain x.key y.key x.key xy yx) (strict x.key)))
      (cases_Bool (same_key before y.key x.key))
    where
      apart : (u v : Entry K) → before v.key u.key ≡ true → same_key before u.key v.key ≡ false
      apart u v p = ⊎_elim
          (λ (s : same_key before u.key v.key ≡ true). absurd (true_false (before v.key u.key) p (not_true (before v.key u.key) (and_parts (not (before u.key v.key)) (not (before v.key u.key)) s).1)))
          (λ (s : same_key before u.key v.key ≡ false). s)
          (cases_Bool (same_key before u.key v.key))

  alike : (xs ys : List (Entry K)) → Ordered before xs → Ordered before ys → EqualTables before xs ys → xs ≡ ys
  alike [] [] a b h = refl
  alike [] (y ∷ ys) a b h = absurd (some_none y.cell (sym (head_at y ys) ∙ sym (h y.key)))
  alike (x ∷ xs) [] a b h = absurd (some_none x.cell (sym (head_at x xs) ∙ h x.key))
  alike (x ∷ xs) (y ∷ ys) a b h =
      let e : x ≡ y = heads x y xs ys (first_below x xs a) (first_below y ys b) h in
      let ay : Above x.key ys = subst (λ w. Above w.key ys) (sym e) (first_below y ys b) in
      let t : EqualTables before xs ys = λ k. ⊎_elim
      (λ (s : same_key before x.key k ≡ true).
      let q = same_is x.key k s in
      subst (λ w. cell_at before xs w ≡ cell_at before ys w) q (none_above x.key xs (first_below x xs a) ∙ sym (none_above x.key ys ay)))
      (λ (s : same_key before x.key k ≡ false).
      sym (tail_at x xs k s) ∙ (h k ∙ tail_at y ys k (subst (λ w. same_key before w.key k ≡ false) e s)))
      (cases_Bool (same_key before x.key k))
      in
      let r = alike xs ys (others x xs a) (others y ys b) t in
      cc

  pub by_key : ByKey before
  by_key = record { alike = λ xs ys a b h. alike xs ys a.ordered b.ordered h; back = λ xs ys e k. ap (λ w. cell_at before w k) e }
