-- The laws of puts, for any digest: an accepted chunk is held, or there is room for it, and each law goes by these two.
use Rattle.std.proofs.Common.{◌≡◌, ℕ, ◌≤◌, Bool, true, false, cond, ltb, ◌⊎◌, List, [], ◌∷◌, length, is_ok, Ok, Err, Result, sym, refl, ap, ◌∙◌, inl, inr, true≢false, arith, ltb-false, le-ltb}
use Rattle.digest.specs.declared.address.Address.{Address}
use Rattle.digest.specs.Bytes.{same_address}
use Rattle.digest.proofs.Same.{same_self, one_address}
use Rattle.store.specs.declared.fault.Put.{Put}
use Rattle.store.specs.declared.fault.Put.TheVariants.{Held, Taken}
use Rattle.store.specs.declared.fault.StoreFault.{StoreFault}
use Rattle.store.specs.Meaning.{Slot, nothing, chunk, bad, Meaning, longest, cost, added, put_at, put_answer, after_put, put_after, OrMemory}
use Rattle.store.specs.Puts.{address_in, puts_after, Accepts, taken_of}
use Rattle.store.proofs.Slots.{meaning_eq, same_bytes_self, one_bytes}
use Rattle.store.specs.Laws.{AllHeld, PutLaws}

-- two addresses are one or are told apart
one_or_apart : (a b : Address) → (a ≡ b) ⊎ (same_address a b ≡ false)
one_or_apart a b = by (same_address a b) refl
  where
    by : (t : Bool) → same_address a b ≡ t → (a ≡ b) ⊎ (same_address a b ≡ false)
    by true e = inl (one_address a b e)
    by false e = inr e

-- either way round
apart_turned : (a b : Address) → same_address a b ≡ false → same_address b a ≡ false
apart_turned a b apart = elim (one_or_apart b a) [
  | inl one ↦ cc
  | inr e ↦ e
]

-- chunks at two addresses may be added in either order
added_turned : (m : Meaning) (a b : Address) (x y : List ℕ) (p q : ℕ) → same_address b a ≡ false → added (added m a x p) b y q ≡ added (added m b y q) a x p
added_turned m a b x y p q apart = meaning_eq _ _ (λ s. elim (one_or_apart s b) [ inl one ↦ rw (one, apart) | inr other ↦ rw other ]) (omega arith) refl

-- where the answer is accepted, the test before a refusal failed, and the test before an acceptance passed
failed : (t : Bool) (e : StoreFault) (r : Result Put StoreFault) → is_ok (cond t (Err e) r) ≡ true → (t ≡ false) × (is_ok r ≡ true)
failed true e r ok = (cc, cc)
failed false e r ok = (refl, ok)

passed : (t : Bool) (p : Put) (e : StoreFault) → is_ok (cond t (Ok p) (Err e)) ≡ true → t ≡ true
passed true p e ok = refl
passed false p e ok = ok

-- a call may answer what it is to answer
itself : (r : Result Put StoreFault) → OrMemory r r
itself (Ok p) = refl
itself (Err e) = inl refl

module _ (d : List ℕ → Address) where
  -- the two ways to be accepted: the chunk is held, or its address is empty and there is room for it
  abbrev Holds : Meaning → List ℕ → Type 0
  Holds m c = (m.at (d c) ≡ chunk c) × (length c ≤ longest)

  abbrev Room : Meaning → List ℕ → Type 0
  Room m c = (m.at (d c) ≡ nothing) × (length c ≤ longest) × (cost (length c) ≤ m.free)

  -- what put answers in each
  answer_held : (m : Meaning) (c : List ℕ) → Holds m c → put_answer d m c ≡ Ok (Held (d c))
  answer_held m c (is, fits) = rw (le-ltb longest (length c) fits, is, same_bytes_self c)

  answer_taken : (m : Meaning) (c : List ℕ) → Room m c → put_answer d m c ≡ Ok (Taken (d c))
  answer_taken m c (is, fits, room) = rw (le-ltb longest (length c) fits, is, le-ltb m.free (cost (length c)) room)

  -- there is no third
  accepted : (m : Meaning) (c : List ℕ) → is_ok (put_answer d m c) ≡ true → Holds m c ⊎ Room m c
  accepted m c ok =
      let short = failed (ltb longest (length c)) _ _ ok in
      by (m.at (d c)) refl (ltb-false longest (length c) short.0) short.1
    where
      by : (s : Slot) → m.at (d c) ≡ s → length c ≤ longest → is_ok (put_at s m.free (d c) c) ≡ true → Holds m c ⊎ Room m c
      by nothing is fits ok' = inr (is, fits, ltb-false m.free (cost (length c)) (failed _ _ _ ok').0)
      by (chunk old) is fits ok' = inl (is ∙ ap chunk (one_bytes old c (passed _ _ _ ok')), fits)
      by bad is fits ok' = absurd (true≢false (sym ok'))

  -- a chunk is taken only where nothing was
  stays : (m : Meaning) (c : List ℕ) (r : Result Put StoreFault) → OrMemory (put_answer d m c) r → (b : Address) (x : List ℕ) → m.at b ≡ chunk x → (after_put d m c r).at b ≡ chunk x
  stays m c (Ok (Held a)) h b x is = is
  stays m c (Ok (Taken a)) h b x is = elim (one_or_apart b (d c)) [
    | inl one ↦ elim (accepted m c (ap is_ok h)) [
      | inl held ↦ cc (answer_held m c held)
      | inr room ↦ cc
    ]
    | inr apart ↦ rw apart is
  ]
  stays m c (Err e) h b x is = is

  -- an accepted chunk was there, or was put there
  present : (m : Meaning) (c : List ℕ) → is_ok (put_answer d m c) ≡ true → (put_after d m c).at (d c) ≡ chunk c
  present m c ok = elim (accepted m c ok) [
    | inl held ↦ rw (answer_held m c held) held.0
    | inr room ↦ rw (answer_taken m c room, same_self (d c))
  ]

  -- an accepted put answers the address of its chunk
  addressed : (m : Meaning) (c : List ℕ) (p : Put) → put_answer d m c ≡ Ok p → address_in p ≡ d c
  addressed m c p is = elim (accepted m c (ap is_ok is)) [
    | inl held ↦ let e : p ≡ Held (d c) = cc (answer_held m c held) in ap address_in e
    | inr room ↦ let e : p ≡ Taken (d c) = cc (answer_taken m c room) in ap address_in e
  ]

  -- what is held stays held over a run of puts
  all_stays : (m : Meaning) (cs : List (List ℕ)) (b : Address) (x : List ℕ) → m.at b ≡ chunk x → (puts_after d m cs).at b ≡ chunk x
  all_stays m [] b x is = is
  all_stays m (c ∷ cs) b x is = all_stays (put_after d m c) cs b x (stays m c (put_answer d m c) (itself (put_answer d m c)) b x is)

  short : (m : Meaning) (c : List ℕ) → is_ok (put_answer d m c) ≡ true → length c ≤ longest
  short m c ok = elim (accepted m c ok) [ inl held ↦ held.1 | inr room ↦ room.1 ]

  all_present : (m : Meaning) (cs : List (List ℕ)) → Accepts d m cs → AllHeld d (puts_after d m cs) cs
  all_present m [] a = tt
  all_present m (c ∷ cs) (ok, a) = ((all_stays (put_after d m c) cs (d c) c (present m c ok), short m c ok), all_present (put_after d m c) cs a)

  -- each of the puts leaves the meaning that the next is to find
  all_again : (m : Meaning) (cs : List (List ℕ)) → AllHeld d m cs → Accepts d m cs × (puts_after d m cs ≡ m) × (taken_of d m cs ≡ 0)
  all_again m [] all = (tt, refl, refl)
  all_again m (c ∷ cs) (held, all) =
      let rest = all_again m cs all in
      rw (answer_held m c held) ((refl, rest.0), rest.1, omega arith)

  -- y is accepted first and x after it, and they leave what they leave with x first
  abbrev Turned : Meaning → List ℕ → List ℕ → Type 0
  Turned m x y = (is_ok (put_answer d m y) ≡ true) × (is_ok (put_answer d (put_after d m y) x) ≡ true) × (put_after d (put_after d m x) y ≡ put_after d (put_after d m y) x)

  either_order : (m : Meaning) (x y : List ℕ) → is_ok (put_answer d m x) ≡ true → is_ok (put_answer d (put_after d m x) y) ≡ true → Turned m x y
  either_order m x y ok-x ok-y = by (one_or_apart (d y) (d x)) (accepted m x ok-x) (accepted (put_after d m x) y ok-y)
    where
      by : (d y ≡ d x) ⊎ (same_address (d y) (d x) ≡ false) → Holds m x ⊎ Room m x → Holds (put_after d m x) y ⊎ Room (put_after d m x) y → Turned m x y
      -- at one address they are one chunk
      by (inl one) _ then =
          let there = present m x ok-x in
          let same : y ≡ x = elim then [ inl held ↦ cc | inr room ↦ cc ] in
          rw same (ok-x, rw same at ok-y, refl)
      -- a chunk that is held stays held, and its put changes nothing
      by (inr apart) (inl held) _ =
          let still = stays m y (put_answer d m y) (itself (put_answer d m y)) (d x) x held.0 in
          rw (answer_held m x held, answer_held (put_after d m y) x (still, held.1)) (rw (answer_held m x held) at ok-y, refl, refl)
      by (inr apart) (inr room) (inl held) =
          let before = rw (answer_taken m x room, apart) at held in
          rw (answer_held m y before, answer_held (put_after d m x) y held) (refl, ok-x, refl)
      -- there is room for both
      by (inr apart) (inr room) (inr then) =
          let takes_x = answer_taken m x room in
          let before = rw (takes_x, apart) at then in
          let takes_y = answer_taken m y (before.0, before.1, omega arith) in
          let after : Room (put_after d m y) x = rw (takes_y, apart_turned (d y) (d x) apart) (room.0, room.1, omega arith) in
          rw (answer_taken (put_after d m x) y then, answer_taken (put_after d m y) x after, takes_x, takes_y) (refl, refl, added_turned m (d x) (d y) x y _ _ apart)

  pub lawful : PutLaws d
  lawful = record {
    others = λ m c. elim [ Ok (Held a) ↦ λ b apart. refl | Ok (Taken a) ↦ λ b apart. rw apart | Err e ↦ λ b apart. refl ];
    root_stays = λ m c. elim [ Ok (Held a) ↦ refl | Ok (Taken a) ↦ refl | Err e ↦ refl ];
    stays = stays;
    addressed = addressed;
    present = present;
    again = λ m c is fits. rw (answer_held m c (is, fits)) (refl, refl);
    all_again = all_again;
    all_present = all_present;
    either_order = either_order;
  }
