-- What a put below leaves of the verifying layer's meaning.
use Rattle.std.proofs.Common.{◌≡◌, ℕ, Bool, true, false, cond, List, length, Ok, Err, Result, refl, ap, ◌∙◌}
use Rattle.digest.specs.declared.address.Address.{Address}
use Rattle.digest.specs.Bytes.{same_address}
use Rattle.digest.proofs.Same.{same_self, one_address}
use Rattle.store.specs.declared.fault.Put.{Put}
use Rattle.store.specs.declared.fault.Put.TheVariants.{Held, Taken}
use Rattle.store.specs.declared.fault.StoreFault.{StoreFault}
use Rattle.store.specs.Meaning.{Slot, chunk, bad, Meaning, cost, added, after_put, checked_slot, checked}
use Rattle.store.proofs.Slots.{meaning_eq}

module _ (d : List ℕ → Address) where
  -- a chunk that verifies is seen as it is
  sound_slot : (a : Address) (c : List ℕ) → same_address (d c) a ≡ true → checked_slot d a (chunk c) ≡ chunk c
  sound_slot a c h = ap (λ t. cond t (chunk c) bad) h

  added_at : (b : Address) (c : List ℕ) (s : Slot) (t : Bool) → same_address b (d c) ≡ t → checked_slot d b (cond t (chunk c) s) ≡ cond t (chunk c) (checked_slot d b s)
  added_at b c s true h = sound_slot b c (ap (λ x. same_address (d c) x) (one_address b (d c) h) ∙ same_self (d c))
  added_at b c s false h = refl

  added_checked : (m : Meaning) (c : List ℕ) (n : ℕ) → checked d (added m (d c) c n) ≡ added (checked d m) (d c) c n
  added_checked m c n = meaning_eq _ _ (λ b. added_at b c (m.at b) (same_address b (d c)) refl) refl refl

  pub after_checked : (m : Meaning) (c : List ℕ) (r : Result Put StoreFault) → checked d (after_put d m c r) ≡ after_put d (checked d m) c r
  after_checked m c (Ok (Held b)) = refl
  after_checked m c (Ok (Taken b)) = added_checked m c (cost (length c))
  after_checked m c (Err e) = refl
