-- The bytes of a child behind its key.
use Rattle.std.specs.Prelude.{◌≡◌, ℕ, ◌^◌, ◌<◌, List, ◌++◌, length, refl}
use Rattle.std.proofs.Common.{sym, ◌∙◌}
use Rattle.std.proofs.Math.Bridge.{le_prop}
use Rattle.std.proofs.lemmas.List.{append_assoc}
use Rattle.digest.specs.declared.address.Address.{Address}
use Rattle.digest.specs.Bytes.{bytes_of, Whole}
use Rattle.tree_laws.specs.Layout.{four_bytes, link_bytes}
use Rattle.tree_laws.proofs.Layouts.{same_parts, same_at, same_four}

pub link_length : (a : Address) (n : ℕ) → length (link_bytes a n) ≡ 36
unfolding link_bytes
link_length a n = refl

-- equal bytes are one address and one number
pub same_link : (a b : Address) (n m : ℕ) (s t : List ℕ) → Whole a → Whole b → n < 2 ^ 32 → m < 2 ^ 32 → link_bytes a n ++ s ≡ link_bytes b m ++ t → (a ≡ b) × (n ≡ m) × (s ≡ t)
unfolding link_bytes
same_link a b n m s t ha hb hn hm e =
    let p = same_parts (bytes_of a) (bytes_of b) (four_bytes n ++ s) (four_bytes m ++ t) refl (sym (append_assoc (bytes_of a) (four_bytes n) s) ∙ (e ∙ append_assoc (bytes_of b) (four_bytes m) t)) in
    let q = same_parts (four_bytes n) (four_bytes m) s t refl p.1 in
    (same_at a b ha hb p.0, same_four n m hn hm q.0, q.1)

-- that an address is whole can hold in one way only
pub whole_prop : (a : Address) (p q : Whole a) → p ≡ q
whole_prop a p q = λ i. (le_prop p.0 q.0 i, le_prop p.1 q.1 i, le_prop p.2 q.2 i, le_prop p.3 q.3 i)
