-- What a memory table holds where one chunk more was put.
use Rattle.std.proofs.Common.{◌≡◌, ℕ, ◌≤◌, Bool, true, false, cond, List, length, Some, Option, Vec, vec_items, vec_len, sym, refl, ap, ◌∙◌, arith}
use Rattle.std.specs.HashMap.{HashMap, get}
use Rattle.digest.specs.declared.address.Address.{Address}
use Rattle.digest.specs.Bytes.{same_address}
use Rattle.digest.proofs.Same.{one_address, same_self}
use Rattle.store.specs.Meaning.{Slot, chunk}
use Rattle.memory.specs.Table.{slot_of, held, Small}

same_turn : (a b : Address) (t u : Bool) → same_address a b ≡ t → same_address b a ≡ u → t ≡ u
same_turn a b true true e f = refl
same_turn a b false false e f = refl
same_turn a b true false e f = sym (same_self a) ∙ ap (λ x. same_address x a) (one_address a b e) ∙ f
same_turn a b false true e f = sym e ∙ ap (λ x. same_address x b) (sym (one_address b a f)) ∙ same_self b

slot_either : {W : Type 0} (t : Bool) (v : Vec ℕ W) (o : Option (Vec ℕ W)) → slot_of (cond t (Some v) o) ≡ cond t (chunk (vec_items v)) (slot_of o)
slot_either true v o = refl
slot_either false v o = refl

module _ {W S : Type 0} (m n : HashMap Address (Vec ℕ W) S) (a : Address) (v : Vec ℕ W) (put : (q : Address) → get same_address n q ≡ cond (same_address a q) (Some v) (get same_address m q)) where
  pub held_more : (b : Address) → held n b ≡ cond (same_address b a) (chunk (vec_items v)) (held m b)
  held_more b =
      ap slot_of (put b) ∙ slot_either (same_address a b) v (get same_address m b) ∙ ap (λ t. cond t (chunk (vec_items v)) (held m b)) (same_turn a b (same_address a b) (same_address b a) refl refl)

  small_at : (s : Slot) (c : List ℕ) (t : Bool) → (s ≡ chunk c → length c ≤ 2488) → vec_len v ≤ 2488 → cond t (chunk (vec_items v)) s ≡ chunk c → length c ≤ 2488
  small_at s c true old few e =
      let same : vec_items v ≡ c = cc in
      let long = v.ok.0 in
      let f = ap length same in
      omega arith
  small_at s c false old few e = old e

  pub small_more : Small m → vec_len v ≤ 2488 → Small n
  small_more old few b c e = small_at (held m b) c (same_address b a) (old b c) few (sym (held_more b) ∙ e)
