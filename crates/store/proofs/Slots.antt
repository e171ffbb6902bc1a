-- Slots, answers and meanings.
use Rattle.std.proofs.Common.{◌≡◌, ℕ, ◌<◌, ◌≤◌, true, cond, eqb, List, [], ◌∷◌, ◌++◌, length, drop, Ok, Err, sym, refl, ap, ◌∙◌, le-ltb, lt-ltb, eq-eqb, eqb-true}
use Rattle.digest.specs.declared.address.Address.{Address}
use Rattle.digest.proofs.Same.{and_left, and_right}
use Rattle.store.specs.declared.fault.StoreFault.TheVariants.{Short}
use Rattle.store.specs.Meaning.{Slot, chunk, Meaning, same_bytes, get_at, write_at}

pub meaning_eq : (m n : Meaning) → ((a : Address) → m.at a ≡ n.at a) → m.free ≡ n.free → m.root ≡ n.root → m ≡ n
meaning_eq m n h f r = λ i. record { at = λ a. h a i; free = f i; root = r i }

pub same_bytes_self : (xs : List ℕ) → same_bytes xs xs ≡ true
same_bytes_self [] = refl
same_bytes_self (x ∷ xs) = let e = eq-eqb x x refl in rw (e, same_bytes_self xs)

pub one_bytes : (xs ys : List ℕ) → same_bytes xs ys ≡ true → xs ≡ ys
one_bytes [] [] h = refl
one_bytes [] (y ∷ ys) h = cc
one_bytes (x ∷ xs) [] h = cc
one_bytes (x ∷ xs) (y ∷ ys) h =
    let e : x ≡ y = eqb-true x y (and_left (eqb x y) (same_bytes xs ys) h) in
    let t : xs ≡ ys = one_bytes xs ys (and_right (eqb x y) (same_bytes xs ys) h) in
    cc

-- what get answers and leaves in the buffer, by the slot
module _ (s : Slot) (a : Address) (b : List ℕ) where
  module _ (c : List ℕ) (e : s ≡ chunk c) where
    pub get_short : length b < length c → (Err (Short a) ≡ get_at s a (length b)) × (b ≡ write_at s b)
    get_short h =
        let t = lt-ltb (length b) (length c) h in
        (sym (ap (λ x. get_at x a (length b)) e ∙ ap (λ x. cond x (Err (Short a)) (Ok (length c))) t), sym (ap (λ x. write_at x b) e ∙ ap (λ x. cond x b (c ++ drop (length c) b)) t))

    pub get_whole : length c ≤ length b → (Ok (length c) ≡ get_at s a (length b)) × (c ++ drop (length c) b ≡ write_at s b)
    get_whole h =
        let t = le-ltb (length b) (length c) h in
        (sym (ap (λ x. get_at x a (length b)) e ∙ ap (λ x. cond x (Err (Short a)) (Ok (length c))) t), sym (ap (λ x. write_at x b) e ∙ ap (λ x. cond x b (c ++ drop (length c) b)) t))
