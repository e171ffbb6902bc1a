-- Chunks put in turn: one more that is accepted, or the first that is refused.
use Rattle.std.proofs.Common.{◌≡◌, ℕ, ◌+◌, ◌<◌, true, List, [], ◌∷◌, ◌++◌, length, get_or, take, is_ok, Ok, Err, sym, refl, ap, ◌∙◌, subst, add-zero, add_assoc, suc-add, zero-add, arith}
use Rattle.std.proofs.lemmas.List.{take_more, take-append-le, length-append, get_or-append-add, get_or_append_left}
use Rattle.std.proofs.lemmas.List.Sums.{fold_more}
use Rattle.digest.specs.declared.address.Address.{Address}
use Rattle.store.specs.declared.fault.Put.{Put}
use Rattle.store.specs.declared.fault.StoreFault.{StoreFault}
use Rattle.store.specs.declared.puts.Stopped.{Stopped}
use Rattle.store.specs.Meaning.{Meaning, put_answer, after_put, put_after, OrMemory}
use Rattle.store.specs.Puts.{puts_after, Accepts, takes, taken_of, StoppedAt, AllPut}

take-append-add : {X : Type 0} (xs ys : List X) (n : ℕ) → take (length xs + n) (xs ++ ys) ≡ xs ++ take n ys
take-append-add [] ys n = ap (λ k. take k ys) (zero-add n)
take-append-add (x ∷ xs) ys n = ap (λ k. take k (x ∷ (xs ++ ys))) (suc-add (length xs) n) ∙ ap (λ t. x ∷ t) (take-append-add xs ys n)

module _ (d : List ℕ → Address) where
  accepts_push : (m : Meaning) (cs : List (List ℕ)) (c : List ℕ) → Accepts d m cs → is_ok (put_answer d (puts_after d m cs) c) ≡ true → Accepts d m (cs ++ c ∷ [])
  accepts_push m [] c h o = (o, tt)
  accepts_push m (x ∷ cs) c h o = (h.0, accepts_push (put_after d m x) cs c h.1 o)

  taken_push : (m : Meaning) (cs : List (List ℕ)) (c : List ℕ) → taken_of d m (cs ++ c ∷ []) ≡ taken_of d m cs + takes (put_answer d (puts_after d m cs) c)
  taken_push m [] c = add-zero _ ∙ sym (zero-add _)
  taken_push m (x ∷ cs) c = ap (λ n. takes (put_answer d m x) + n) (taken_push (put_after d m x) cs c) ∙ sym (add_assoc (takes (put_answer d m x)) _ _)

  module _ (m n n' : Meaning) (cs : List (List ℕ)) (i taken : ℕ) (c : List ℕ) (below : i < length cs) (is : c ≡ get_or cs i []) (h : AllPut d m (take i cs) taken n) where
    at_i : put_answer d n c ≡ put_answer d (puts_after d m (take i cs)) (get_or cs i [])
    at_i = ap (put_answer d n) is ∙ ap (λ k. put_answer d k (get_or cs i [])) h.after

    -- one chunk more
    pub put_more : (p : Put) (count : ℕ) → put_answer d n c ≡ Ok p → n' ≡ after_put d n c (Ok p) → count ≡ takes (Ok p) → AllPut d m (take (i + 1) cs) (taken + count) n'
    put_more p count o q e =
        let here = sym at_i ∙ o in
        record {
          accepted = subst (Accepts d m) (sym (take_more cs i [] below)) (accepts_push m (take i cs) (get_or cs i []) h.accepted (ap is_ok here));
          count = (λ j. h.count j + (e ∙ ap takes (sym here)) j) ∙ sym (taken_push m (take i cs) (get_or cs i [])) ∙ ap (taken_of d m) (sym (take_more cs i [] below));
          after = q ∙ ap (after_put d n c) (sym o) ∙ ap (put_after d n) is ∙ ap (λ k. put_after d k (get_or cs i [])) h.after ∙ sym (fold_more (put_after d) m cs i [] below);
        }

    -- the first refusal
    pub put_stopped : (f : StoreFault) → OrMemory (put_answer d n c) (Err f) → n' ≡ n → StoppedAt d m cs (record { accepted = i; taken = taken; fault = f }) n'
    put_stopped f r q = record {
      within = below;
      before = h.accepted;
      taken_before = h.count;
      after = q ∙ h.after;
      refused = subst (λ x. OrMemory x (Err f)) at_i r;
    }

  pub put_none : (m : Meaning) (cs : List (List ℕ)) → AllPut d m (take 0 cs) 0 m
  put_none m [] = record { accepted = tt; count = refl; after = refl }
  put_none m (c ∷ cs) = record { accepted = tt; count = refl; after = refl }

  -- a run of puts behind a run of puts
  module _ (m n : Meaning) (xs : List (List ℕ)) (taken : ℕ) (h : AllPut d m xs taken n) (ys : List (List ℕ)) where
    after_append : (us vs : List (List ℕ)) (k : Meaning) → puts_after d k (us ++ vs) ≡ puts_after d (puts_after d k us) vs
    after_append [] vs k = refl
    after_append (u ∷ us) vs k = after_append us vs (put_after d k u)

    accepts_append : (us vs : List (List ℕ)) (k : Meaning) → Accepts d k us → Accepts d (puts_after d k us) vs → Accepts d k (us ++ vs)
    accepts_append [] vs k a b = b
    accepts_append (u ∷ us) vs k a b = (a.0, accepts_append us vs (put_after d k u) a.1 b)

    taken_append : (us vs : List (List ℕ)) (k : Meaning) → taken_of d k (us ++ vs) ≡ taken_of d k us + taken_of d (puts_after d k us) vs
    taken_append [] vs k = sym (zero-add _)
    taken_append (u ∷ us) vs k = ap (λ w. takes (put_answer d k u) + w) (taken_append us vs (put_after d k u)) ∙ sym (add_assoc (takes (put_answer d k u)) _ _)

    -- all of both
    pub all_append : (count : ℕ) (n' : Meaning) → AllPut d n ys count n' → AllPut d m (xs ++ ys) (taken + count) n'
    all_append count n' k =
        let k' = subst (λ w. AllPut d w ys count n') h.after k in
        record {
          accepted = accepts_append xs ys m h.accepted k'.accepted;
          count = (λ i. h.count i + k'.count i) ∙ sym (taken_append xs ys m);
          after = k'.after ∙ sym (after_append xs ys m);
        }

    -- all of the first, and some of the second
    pub stopped_append : (s : Stopped) (n' : Meaning) → StoppedAt d n ys s n' → StoppedAt d m (xs ++ ys) (record { accepted = length xs + s.accepted; taken = taken + s.taken; fault = s.fault }) n'
    stopped_append s n' k =
        let k' = subst (λ w. StoppedAt d w ys s n') h.after k in
        let front = take-append-add xs ys s.accepted in
        let behind = after_append xs (take s.accepted ys) m in
        record {
          within = omega (arith, length-append xs ys, k'.within);
          before = subst (Accepts d m) (sym front) (accepts_append xs (take s.accepted ys) m h.accepted k'.before);
          taken_before = (λ i. h.count i + k'.taken_before i) ∙ sym (taken_append xs (take s.accepted ys) m) ∙ ap (taken_of d m) (sym front);
          after = k'.after ∙ sym behind ∙ ap (puts_after d m) (sym front);
          refused = subst (λ w. OrMemory w (Err s.fault)) ((λ i. put_answer d ((sym behind ∙ ap (puts_after d m) (sym front)) i) (sym (get_or-append-add xs ys s.accepted []) i))) k'.refused;
        }

  -- what follows a refused chunk makes no difference
  pub stopped_longer : (m n : Meaning) (xs ys : List (List ℕ)) (s : Stopped) → StoppedAt d m xs s n → StoppedAt d m (xs ++ ys) s n
  stopped_longer m n xs ys s h =
      let front = take-append-le s.accepted xs ys (omega (arith, h.within)) in
      record {
        within = omega (arith, length-append xs ys, h.within);
        before = subst (Accepts d m) (sym front) h.before;
        taken_before = h.taken_before ∙ ap (taken_of d m) (sym front);
        after = h.after ∙ ap (puts_after d m) (sym front);
        refused = subst (λ w. OrMemory w (Err s.fault)) ((λ i. put_answer d (puts_after d m (sym front i)) (sym (get_or_append_left xs ys [] s.accepted h.within) i))) h.refused;
      }

  -- one chunk alone
  pub stop_one : (m n : Meaning) (c : List ℕ) (f : StoreFault) → OrMemory (put_answer d m c) (Err f) → n ≡ m → StoppedAt d m (c ∷ []) (record { accepted = 0; taken = 0; fault = f }) n
  stop_one m n c f r q = record { within = omega arith; before = tt; taken_before = refl; after = q; refused = r }
