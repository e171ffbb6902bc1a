-- A chunk that is put into a fresh store and then read.
use Rattle.std.proofs.Common.{◌≡◌, ℕ, Bool, true, false, cond, ltb, List, length, is_ok, Ok, Err, Result, sym, refl, ap, ◌∙◌, subst, inr, ltb-false, ltb-true}
use Rattle.digest.specs.declared.address.Address.{Address}
use Rattle.store.specs.declared.fault.Put.{Put}
use Rattle.store.specs.declared.fault.Put.TheVariants.{Taken}
use Rattle.store.specs.declared.fault.StoreFault.{StoreFault}
use Rattle.store.specs.declared.fault.StoreFault.TheVariants.{TooLong, NoRoom}
use Rattle.store.specs.Meaning.{Slot, chunk, Meaning, longest, cost, put_answer, after_put, get_at, get_answer, write_at, get_buffer}
use Rattle.store.proofs.Lawful.{lawful}
use Rattle.store.proofs.Slots.{get_short, get_whole}
use Rattle.memory.specs.Table.{empty}
use Rattle.memory.specs.Piles.{Keeps}

-- an empty store has no chunk to hold, so what it accepts it takes
taken_only : (a : Address) (p : Put) (t u : Bool) → ◌≡◌ {A = Result Put StoreFault} (cond t (Err TooLong) (cond u (Err (NoRoom a)) (Ok (Taken a)))) (Ok p) → ◌≡◌ {A = Result Put StoreFault} (Ok p) (Ok (Taken a))
taken_only a p true u h = cc
taken_only a p false true h = cc
taken_only a p false false h = sym h

module _ (d : List ℕ → Address) (n : ℕ) (c b : List ℕ) where
  -- what comes back where the chunk is at its address
  read : (s : Slot) → s ≡ chunk c → put_answer d (empty n) c ≡ Ok (Taken (d c)) → (r : Result ℕ StoreFault) (b' : List ℕ) → r ≡ get_at s (d c) (length b) → b' ≡ write_at s b → Keeps d n c b r b'
  read s e fresh r b' hr hb = by (ltb (length b) (length c)) refl
    where
      by : (t : Bool) → ltb (length b) (length c) ≡ t → Keeps d n c b r b'
      by true h =
          let short = ltb-true (length b) (length c) h in
          let g = get_short s (d c) b c e short in
          subst (λ x. Keeps d n c b x b') (g.0 ∙ sym hr) (hb ∙ sym g.1, inr (refl, short))
      by false h =
          let g = get_whole s (d c) b c e (ltb-false (length b) (length c) h) in
          subst (λ x. Keeps d n c b x b') (g.0 ∙ sym hr) (fresh, refl, hb ∙ sym g.1)

  pub keeps : (m m' : Meaning) (a : Address) (p : Put) (r : Result ℕ StoreFault) (b' : List ℕ) → m ≡ empty n → a ≡ d c → put_answer d m c ≡ Ok p → m' ≡ after_put d m c (Ok p) → r ≡ get_answer m' a (length b) → b' ≡ get_buffer m' a b → Keeps d n c b r b'
  keeps m m' a p r b' start is ok after hr hb =
      let fresh = ap (λ x. put_answer d x c) (sym start) ∙ ok in
      let there = ap (λ x. x.at (d c)) (after ∙ ap (after_put d m c) (sym ok)) ∙ (lawful d).present m c (ap is_ok ok) in
      read (m'.at (d c)) there (fresh ∙ taken_only (d c) p (ltb longest (length c)) (ltb n (cost (length c))) fresh) r b'
      (hr ∙ ap (λ x. get_answer m' x (length b)) is) (hb ∙ ap (λ x. get_buffer m' x b) is)
