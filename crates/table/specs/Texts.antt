use Rattle.std.specs.Prelude.{◌≡◌, ℕ, ◌<◌, ◌≤◌, true, false, ◌⊎◌, List, [], ◌∷◌, ◌++◌, length, take, drop, ◌==◌, nat_lt, refl}
use Rattle.std.proofs.Common.{sym, ap, ap₂, ◌∙◌, inl, inr, ⊎_elim, arith}
use mathlib.Core.HLevel.{is_prop→PathP}
use Rattle.std.proofs.Math.Bool.{Bool-set}
use Rattle.std.proofs.Math.Bridge.{le_prop}
use Rattle.std.proofs.Math.Nat.{ℕ_set}
use Rattle.table.specs.Codes.{lex_before, zeros}
use Rattle.table.specs.declared.bytes.Bytes.{Bytes}
use Rattle.table.specs.Of.{string}
use Rattle.std.proofs.lemmas.List.{length-take-le, take-append-drop, length-drop}
use Rattle.std.proofs.lemmas.Bool.{cases_eq, ltb-true, lt-ltb, eq-eqb, ne_eqb, eqb-true, cond-true, cond-false, and_parts, cases_order}

pub zeros_same : (xs ys : List ℕ) → length xs ≡ length ys → zeros xs ≡ true → zeros ys ≡ true → xs ≡ ys
zeros_same [] [] n p q = refl
zeros_same [] (y ∷ ys) n p q = absurd (omega (arith, n))
zeros_same (x ∷ xs) [] n p q = absurd (omega (arith, n))
zeros_same (x ∷ xs) (y ∷ ys) n p q =
    let a = and_parts (x == 0) (zeros xs) p in
    let b = and_parts (y == 0) (zeros ys) q in
    let h : x ≡ y = eqb-true x 0 a.0 ∙ sym (eqb-true y 0 b.0) in
    let t = zeros_same xs ys (omega (arith, n)) a.1 b.1 in
    cc

-- the order
step_eq : (x : ℕ) (xs ys : List ℕ) → lex_before (x ∷ xs) (x ∷ ys) ≡ lex_before xs ys
step_eq x xs ys = cond-true (x == x) _ _ (eq-eqb x x refl)

pub lex_strict : (xs : List ℕ) → lex_before xs xs ≡ false
lex_strict [] = refl
lex_strict (x ∷ xs) = step_eq x xs xs ∙ lex_strict xs

-- what it says of two strings with a first byte
parts : (x y : ℕ) (xs ys : List ℕ) → lex_before (x ∷ xs) (y ∷ ys) ≡ true → (x < y) ⊎ ((x ≡ y) × (lex_before xs ys ≡ true))
parts x y xs ys h =
    ⊎_elim
    (λ (e : x ≡ y). inr (e, sym (cond-true (x == y) (lex_before xs ys) (nat_lt x y) (eq-eqb x y e)) ∙ h))
    (λ (n : x ≡ y → ⊥). inl (ltb-true x y (sym (cond-false (x == y) (lex_before xs ys) (nat_lt x y) (ne_eqb x y n)) ∙ h)))
    (cases_eq x y)

made_less : (x y : ℕ) (xs ys : List ℕ) → x < y → lex_before (x ∷ xs) (y ∷ ys) ≡ true
made_less x y xs ys h = cond-false (x == y) _ _ (ne_eqb x y (λ e. omega arith)) ∙ lt-ltb x y h

made_same : (x y : ℕ) (xs ys : List ℕ) → x ≡ y → lex_before xs ys ≡ true → lex_before (x ∷ xs) (y ∷ ys) ≡ true
made_same x y xs ys e h = cond-true (x == y) _ _ (eq-eqb x y e) ∙ h

never : false ≡ true → ⊥
never e = let z : ◌≡◌ {A = ℕ} 0 1 = cc in omega arith

pub lex_chain : (xs ys zs : List ℕ) → lex_before xs ys ≡ true → lex_before ys zs ≡ true → lex_before xs zs ≡ true
lex_chain xs ys [] p q = q
lex_chain xs [] (z ∷ zs) p q = absurd (never p)
lex_chain [] (y ∷ ys) (z ∷ zs) p q = refl
lex_chain (x ∷ xs) (y ∷ ys) (z ∷ zs) p q =
    let ih = lex_chain xs ys zs in
    ⊎_elim
    (λ (a : x < y). ⊎_elim
    (λ (b : y < z). made_less x z xs zs (omega arith))
    (λ (b : (y ≡ z) × (lex_before ys zs ≡ true)). made_less x z xs zs (omega arith))
    (parts y z ys zs q))
    (λ (a : (x ≡ y) × (lex_before xs ys ≡ true)). ⊎_elim
    (λ (b : y < z). made_less x z xs zs (omega arith))
    (λ (b : (y ≡ z) × (lex_before ys zs ≡ true)). made_same x z xs zs (a.0 ∙ b.0) (ih a.1 b.1))
    (parts y z ys zs q))
    (parts x y xs ys p)

pub lex_total : (xs ys : List ℕ) → lex_before xs ys ≡ false → lex_before ys xs ≡ false → xs ≡ ys
lex_total [] [] p q = refl
lex_total [] (y ∷ ys) p q = absurd (never (sym p))
lex_total (x ∷ xs) [] p q = absurd (never (sym q))
lex_total (x ∷ xs) (y ∷ ys) p q =
    let ih = lex_total xs ys in
    ⊎_elim
    (λ (e : x ≡ y).
    let t : xs ≡ ys = ih (sym (cond-true (x == y) (lex_before xs ys) (nat_lt x y) (eq-eqb x y e)) ∙ p) (sym (cond-true (y == x) (lex_before ys xs) (nat_lt y x) (eq-eqb y x (sym e))) ∙ q) in
    cc)
    (⊎_elim
    (λ (a : x < y). absurd (never (sym p ∙ made_less x y xs ys a)))
    (λ (a : y < x). absurd (never (sym q ∙ made_less y x ys xs a))))
    (cases_order x y)

-- a string of limited length is its bytes
pub same_string : {n : ℕ} (x y : Bytes n) → string x ≡ string y → x ≡ y
same_string {n} x y e =
    let lx : length (take x.len x.bytes) ≡ x.len = length-take-le x.len x.bytes (omega (arith, x.short, x.whole)) in
    let ly : length (take y.len y.bytes) ≡ y.len = length-take-le y.len y.bytes (omega (arith, y.short, y.whole)) in
    let l : x.len ≡ y.len = sym lx ∙ (ap length e ∙ ly) in
    let d : drop x.len x.bytes ≡ drop y.len y.bytes =
    zeros_same (drop x.len x.bytes) (drop y.len y.bytes)
    (length-drop x.len x.bytes ∙ (omega (arith, l, x.whole, y.whole) ∙ sym (length-drop y.len y.bytes))) x.clear y.clear
    in
    let b : x.bytes ≡ y.bytes = sym (take-append-drop x.len x.bytes) ∙ (ap₂ ◌++◌ e d ∙ take-append-drop y.len y.bytes) in
    λ i. record {
      bytes = b i;
      len = l i;
      whole = is_prop→PathP (λ j. length (b j) ≡ n) (λ j. ℕ_set (length (b j)) n) x.whole y.whole i;
      short = is_prop→PathP (λ j. l j ≤ n) (λ j. le_prop) x.short y.short i;
      clear = is_prop→PathP (λ j. zeros (drop (l j) (b j)) ≡ true) (λ j. Bool-set (zeros (drop (l j) (b j))) true) x.clear y.clear i;
    }
