-- What one address more means.
use Rattle.std.proofs.Common.{◌≡◌, ℕ, zero, suc, ◌<◌, ◌≤◌, cond, List, [], ◌∷◌, ◌++◌, length, Some, refl, ap, ◌∙◌, add-one, arith, length-append}
use lib.Seq.{get_or-append_seam}
use Rattle.std.proofs.lemmas.List.{get_or_append_left}
use Rattle.digest.specs.declared.address.Address.{Address}
use Rattle.digest.specs.Bytes.{same_address}
use Rattle.index.specs.Places.{key, newest, place}

module _ (ks : List Address) (a : Address) where
  key_before : (p : ℕ) → p < length ks → key (ks ++ a ∷ []) p ≡ key ks p
  key_before p h = get_or_append_left ks (a ∷ []) _ p h

  key_last : key (ks ++ a ∷ []) (length ks) ≡ a
  key_last = get_or-append_seam ks a [] _

  newest_before : (b : Address) (k : ℕ) → k ≤ length ks → newest (ks ++ a ∷ []) b k ≡ newest ks b k
  newest_before b zero h = refl
  newest_before b (suc k) h =
      let l : k < length ks = omega arith in
      let l' : k ≤ length ks = omega arith in
      let e = key_before k l in
      let f = newest_before b k l' in
      (λ i. cond (same_address (e i) b) (Some k) (f i))

  -- what an insertion means
  pub place_more : (b : Address) → place (ks ++ a ∷ []) b ≡ cond (same_address a b) (Some (length ks)) (place ks b)
  place_more b =
      let l : length (ks ++ a ∷ []) ≡ suc (length ks) = length-append ks (a ∷ []) ∙ add-one (length ks) in
      let n : length ks ≤ length ks = omega arith in
      let e = key_last in
      let f = newest_before b (length ks) n in
      ap (newest (ks ++ a ∷ []) b) l ∙ (λ i. cond (same_address (e i) b) (Some (length ks)) (f i))
