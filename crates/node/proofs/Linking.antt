-- Writing and reading the bytes of a child behind its key.
use Rattle.std.specs.Prelude.{◌≡◌, ℕ, zero, suc, ◌+◌, ◌*◌, ◌/◌, ◌%◌, ◌^◌, ◌<◌, List, [], ◌∷◌, ◌++◌, length, take, drop, ◌≢◌, slice_index, slice_index_or, refl}
use Rattle.std.proofs.Common.{arith, sym, ap, ap₂, ◌∙◌}
use Rattle.std.proofs.lemmas.List.{length-append, append_assoc, take-append-drop, ext_get_or}
use Rattle.digest.specs.declared.address.Address.{Address}
use Rattle.digest.specs.Bytes.{bytes_of}
use Rattle.tree_laws.specs.Layout.{four_bytes, link_bytes}
use Rattle.node.specs.Links.{link_length}

-- the address and then the number, written behind what was there
pub wrote_link : (was one two : List ℕ) (a : Address) (n : ℕ) → one ≡ was ++ bytes_of a → two ≡ one ++ four_bytes n → two ≡ was ++ link_bytes a n
unfolding link_bytes
wrote_link was one two a n p q = q ∙ (ap (λ w. w ++ four_bytes n) p ∙ append_assoc was (bytes_of a) (four_bytes n))

-- the bytes of an address and then those of a number
pub read_link : (s one two r t : List ℕ) (a : Address) (n : ℕ) → s ≡ one ++ r → r ≡ two ++ t → bytes_of a ≡ one → four_bytes n ≡ two → s ≡ link_bytes a n ++ t
unfolding link_bytes
read_link s one two r t a n p q e f = p ∙ (ap₂ ◌++◌ (sym e) (q ∙ ap (λ w. w ++ t) (sym f)) ∙ sym (append_assoc (bytes_of a) (four_bytes n) t))

-- a list that was split is its two parts
pub split_parts : (n : ℕ) (s a r : List ℕ) → a ≡ take n s → r ≡ drop n s → s ≡ a ++ r
split_parts n s a r p q = sym (take-append-drop n s) ∙ ap₂ ◌++◌ (sym p) (sym q)

-- what are bytes are bytes in each part
pub fit_left : (a r : List ℕ) → ((i : ℕ) → slice_index (a ++ r) i < 256) → (i : ℕ) → slice_index a i < 256
fit_left [] r h i = omega arith
fit_left (x ∷ a) r h zero = h zero
fit_left (x ∷ a) r h (suc i) = fit_left a r (λ j. h (suc j)) i

pub fit_right : (a r : List ℕ) → ((i : ℕ) → slice_index (a ++ r) i < 256) → (i : ℕ) → slice_index r i < 256
fit_right [] r h i = h i
fit_right (x ∷ a) r h i = fit_right a r (λ j. h (suc j)) i

-- four bytes are those of their number
pub four_of : (s : List ℕ) → length s ≡ 4 → ((i : ℕ) → slice_index s i < 256) → (n : ℕ) → n ≡ slice_index s 0 * 16777216 + slice_index s 1 * 65536 + slice_index s 2 * 256 + slice_index s 3 → four_bytes n ≡ s
four_of s l small n e =
    let a = small 0 in
    let b = small 1 in
    let c = small 2 in
    let d = small 3 in
    let p : n / 2 ^ 24 % 256 ≡ slice_index_or s 0 0 = omega arith in
    let q : n / 2 ^ 16 % 256 ≡ slice_index_or s 1 0 = omega arith in
    let r : n / 2 ^ 8 % 256 ≡ slice_index_or s 2 0 = omega arith in
    let t : n % 256 ≡ slice_index_or s 3 0 = omega arith in
    let f = listed in
    cc
  where
    at : (i : ℕ) → i < 4 → slice_index s i ≡ slice_index (slice_index s 0 ∷ slice_index s 1 ∷ slice_index s 2 ∷ slice_index s 3 ∷ []) i
    at zero h = refl
    at (suc zero) h = refl
    at (suc (suc zero)) h = refl
    at (suc (suc (suc zero))) h = refl
    at (suc (suc (suc (suc i)))) h = absurd (omega arith)

    listed : s ≡ slice_index s 0 ∷ slice_index s 1 ∷ slice_index s 2 ∷ slice_index s 3 ∷ []
    listed = ext_get_or 0 s (slice_index s 0 ∷ slice_index s 1 ∷ slice_index s 2 ∷ slice_index s 3 ∷ []) l (λ i h. at i (omega (arith, l, h)))

-- where fewer bytes are left, there is no child
pub link_cut_off : (s : List ℕ) (a : Address) (n : ℕ) (t : List ℕ) → length s < 36 → s ≢ link_bytes a n ++ t
link_cut_off s a n t h e = let l = ap length e in let k = link_length a n in omega (arith, l, k, length-append (link_bytes a n) t, h)
