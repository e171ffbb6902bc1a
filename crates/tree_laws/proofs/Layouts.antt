-- The bytes of a node fix its entries: each length is known before the bytes that it counts.
use Rattle.std.proofs.Common.{◌≡◌, ℕ, ◌/◌, ◌%◌, ◌^◌, ◌<◌, List, [], ◌∷◌, ◌++◌, map, length, sym, refl, ap, ◌∙◌, arith}
use Rattle.std.specs.List.{flat_map}
use Rattle.std.proofs.lemmas.List.{append_assoc}
use Rattle.digest.specs.declared.address.Address.{Address}
use Rattle.digest.specs.Bytes.{bytes_of, of_bytes, Whole}
use Rattle.digest.proofs.RoundTrip as trip
use Rattle.tree_laws.specs.Layout.{Row, Child, four_bytes, link_bytes, sized, row_bytes, child_bytes, leaf_bytes, inner_bytes}
use Rattle.tree_laws.specs.Laws.{AllWhole}

-- two lists that begin with parts of one length
pub same_parts : {X : Type 0} (a b s t : List X) → length a ≡ length b → a ++ s ≡ b ++ t → (a ≡ b) × (s ≡ t)
same_parts [] [] s t n e = (refl, e)
same_parts [] (y ∷ b) s t n e = absurd (omega (arith, n))
same_parts (x ∷ a) [] s t n e = absurd (omega (arith, n))
same_parts (x ∷ a) (y ∷ b) s t n e =
    let h : x ≡ y = cc in
    let r = same_parts a b s t (omega (arith, n)) (cc) in
    let ra = r.0 in
    ((cc), r.1)

-- a length before the bytes: what follows is known
pub same_sized : (a b s t : List ℕ) → sized a ++ s ≡ sized b ++ t → (a ≡ b) × (s ≡ t)
same_sized a b s t e =
    let n : length a ≡ length b = cc in
    let r : a ++ s ≡ b ++ t = cc in
    same_parts a b s t n r

-- an address from its bytes
pub same_at : (a b : Address) → Whole a → Whole b → bytes_of a ≡ bytes_of b → a ≡ b
same_at a b h k e = sym (trip.back a h) ∙ (ap of_bytes e ∙ trip.back b k)

-- a number from its 4 bytes
pub same_four : (m n : ℕ) → m < 2 ^ 32 → n < 2 ^ 32 → four_bytes m ≡ four_bytes n → m ≡ n
same_four m n h k e =
    let e0 : m / 16777216 % 256 ≡ n / 16777216 % 256 = cc in
    let e1 : m / 65536 % 256 ≡ n / 65536 % 256 = cc in
    let e2 : m / 256 % 256 ≡ n / 256 % 256 = cc in
    let e3 : m % 256 ≡ n % 256 = cc in
    omega arith

pub row_split : (r q : Row) (s t : List ℕ) → row_bytes r ++ s ≡ row_bytes q ++ t → (r ≡ q) × (s ≡ t)
row_split r q s t e =
    let f : (p : Row) (u : List ℕ) → row_bytes p ++ u ≡ sized p.key ++ (sized p.cell ++ u) =
    λ p u. append_assoc (sized p.key) (sized p.cell) u
    in
    let k = same_sized r.key q.key _ _ (sym (f r s) ∙ (e ∙ f q t)) in
    let c = same_sized r.cell q.cell s t k.1 in
    ((λ i. record { key = k.0 i; cell = c.0 i }), c.1)

pub rows_same : (rs qs : List Row) → length rs ≡ length qs → flat_map row_bytes rs ≡ flat_map row_bytes qs → rs ≡ qs
rows_same [] [] n e = refl
rows_same [] (q ∷ qs) n e = absurd (omega (arith, n))
rows_same (r ∷ rs) [] n e = absurd (omega (arith, n))
rows_same (r ∷ rs) (q ∷ qs) n e =
    let h = row_split r q (flat_map row_bytes rs) (flat_map row_bytes qs) e in
    let h0 = h.0 in
    let t = rows_same rs qs (omega (arith, n)) h.1 in
    cc

pub leaf_same : (kind : ℕ) (rs qs : List Row) → leaf_bytes kind rs ≡ leaf_bytes kind qs → rs ≡ qs
leaf_same kind rs qs e =
    let n : length rs ≡ length qs = cc in
    let j : flat_map row_bytes rs ≡ flat_map row_bytes qs = cc in
    rows_same rs qs n j

-- the key, the address, the number's bytes and what follows
pub child_split : (r q : Child) (s t : List ℕ) → Whole r.at → Whole q.at → child_bytes r ++ s ≡ child_bytes q ++ t
    → (r.key ≡ q.key) × (r.at ≡ q.at) × (four_bytes r.below ≡ four_bytes q.below) × (s ≡ t)
unfolding link_bytes
child_split r q s t hr hq e =
    let f : (p : Child) (u : List ℕ) → child_bytes p ++ u ≡ sized p.key ++ (bytes_of p.at ++ (four_bytes p.below ++ u)) =
    λ p u. append_assoc (sized p.key) (bytes_of p.at ++ four_bytes p.below) u ∙ ap (λ w. sized p.key ++ w) (append_assoc (bytes_of p.at) (four_bytes p.below) u)
    in
    let k = same_sized r.key q.key _ _ (sym (f r s) ∙ (e ∙ f q t)) in
    let a = same_parts (bytes_of r.at) (bytes_of q.at) (four_bytes r.below ++ s) (four_bytes q.below ++ t) refl k.1 in
    let b = same_parts (four_bytes r.below) (four_bytes q.below) s t refl a.1 in
    (k.0, same_at r.at q.at hr hq a.0, b.0, b.1)

children_same : (rs qs : List Child) → AllWhole rs → AllWhole qs → length rs ≡ length qs → flat_map child_bytes rs ≡ flat_map child_bytes qs → map (λ c. c.at) rs ≡ map (λ c. c.at) qs
children_same [] [] a b n e = refl
children_same [] (q ∷ qs) a b n e = absurd (omega (arith, n))
children_same (r ∷ rs) [] a b n e = absurd (omega (arith, n))
children_same (r ∷ rs) (q ∷ qs) a b n e =
    let h = child_split r q (flat_map child_bytes rs) (flat_map child_bytes qs) a.0 b.0 e in
    let h1 = h.1 in
    let t = children_same rs qs a.1 b.1 (omega (arith, n)) h.3 in
    cc

pub inner_same : (kind l : ℕ) (rs qs : List Child) → AllWhole rs → AllWhole qs → inner_bytes kind l rs ≡ inner_bytes kind l qs → map (λ c. c.at) rs ≡ map (λ c. c.at) qs
inner_same kind l rs qs a b e =
    let n : length rs ≡ length qs = cc in
    let j : flat_map child_bytes rs ≡ flat_map child_bytes qs = cc in
    children_same rs qs a b n j
