-- A cut is local: the nodes are the entries, cutting restarts at a boundary, an edited middle meets the old cut at a common boundary, and a level halves.
use Rattle.std.proofs.Common.{◌≡◌, ℕ, suc, ◌+◌, ◌*◌, ◌^◌, ◌≤◌, min, Bool, true, false, cond, ◌&&◌, ◌||◌, eqb, leb, ◌⊎◌, List, [], ◌∷◌, ◌++◌, length, sym, refl, ap, ◌∙◌, ⊎_elim, pow-suc, arith}
use Rattle.std.proofs.lemmas.List.{append-nil, append_assoc, append_cancel_left}
use Rattle.std.proofs.lemmas.Bool.{false≢true, cases_Bool, cond-true, cond-false, or_cases, and_parts, leb-true, eqb-true}
use Rattle.tree_laws.specs.Boundary.{none_left, full, glue, nodes_from, nodes, held_from, concat}

-- a list with an entry is not empty
pub cons_some : {X : Type 0} (x : X) (xs : List X) → x ∷ xs ≡ [] → ⊥
cons_some x xs e = false≢true (ap none_left e)

pub concat-glue : {X : Type 0} (x : X) (ns : List (List X)) → concat (glue x ns) ≡ x ∷ concat ns
concat-glue x [] = refl
concat-glue x (n ∷ ns) = refl

glue-append : {X : Type 0} (x : X) (ns ms : List (List X)) → (ns ≡ [] → ⊥) → glue x (ns ++ ms) ≡ glue x ns ++ ms
glue-append x [] ms h = absurd (h refl)
glue-append x (n ∷ ns) ms h = refl

pub concat-append : {X : Type 0} (fs bs : List (List X)) → concat (fs ++ bs) ≡ concat fs ++ concat bs
concat-append [] bs = refl
concat-append (a ∷ fs) bs = ap (λ t. a ++ t) (concat-append fs bs) ∙ sym (append_assoc a (concat fs) (concat bs))

no_cons : {X : Type 0} (fs : List X) (b : X) (bs : List X) → [] ≡ fs ++ b ∷ bs → ⊥
no_cons [] b bs e = cons_some b bs (sym e)
no_cons (a ∷ fs) b bs e = cons_some a (fs ++ b ∷ bs) (sym e)

-- a node that closes before the last entry has two or more
pub full_two : (k : ℕ) (m : Bool) → full (k + 1) m ≡ true → 1 ≤ k
full_two k m e =
    ⊎_elim
    (λ (a : (leb 2 (k + 1) && m) ≡ true). omega (arith, leb-true 2 (k + 1) (and_parts (leb 2 (k + 1)) m a).0))
    (λ (b : eqb (k + 1) 32 ≡ true). omega (arith, eqb-true (k + 1) 32 b))
    (or_cases _ (eqb (k + 1) 32) e)

module _ {X : Type 0} (mark : X → Bool) where
  -- the step without the test of the end: there glue makes the same node
  pub step : (k : ℕ) (x : X) (xs : List X) →
      nodes_from mark k (x ∷ xs) ≡ cond (full (k + 1) (mark x)) ((x ∷ []) ∷ nodes_from mark 0 xs) (glue x (nodes_from mark (k + 1) xs))
  step k x [] = at (full (k + 1) (mark x))
    where
      at : (b : Bool) → cond (b || true) ((x ∷ []) ∷ []) ((x ∷ []) ∷ []) ≡ cond b ((x ∷ []) ∷ []) ((x ∷ []) ∷ [])
      at true = refl
      at false = refl
  step k x (y ∷ ys) = at (full (k + 1) (mark x)) _ _
    where
      at : (b : Bool) (p q : List (List X)) → cond (b || false) p q ≡ cond b p q
      at true p q = refl
      at false p q = refl

  pub step_full : (k : ℕ) (x : X) (xs : List X) → full (k + 1) (mark x) ≡ true → nodes_from mark k (x ∷ xs) ≡ (x ∷ []) ∷ nodes_from mark 0 xs
  step_full k x xs e = step k x xs ∙ cond-true _ _ _ e

  pub step_open : (k : ℕ) (x : X) (xs : List X) → full (k + 1) (mark x) ≡ false → nodes_from mark k (x ∷ xs) ≡ glue x (nodes_from mark (k + 1) xs)
  step_open k x xs e = step k x xs ∙ cond-false _ _ _ e

  pub held_full : (k : ℕ) (x : X) (xs : List X) → full (k + 1) (mark x) ≡ true → held_from mark k (x ∷ xs) ≡ held_from mark 0 xs
  held_full k x xs e = cond-true _ _ _ e

  pub held_open : (k : ℕ) (x : X) (xs : List X) → full (k + 1) (mark x) ≡ false → held_from mark k (x ∷ xs) ≡ held_from mark (k + 1) xs
  held_open k x xs e = cond-false _ _ _ e

  -- the nodes, one behind the other, are the entries
  pub concat-nodes : (k : ℕ) (xs : List X) → concat (nodes_from mark k xs) ≡ xs
  concat-nodes k [] = refl
  concat-nodes k (x ∷ xs) =
      let h = concat-nodes 0 xs in
      let o = concat-nodes (k + 1) xs in
      ⊎_elim
      (λ e. ap concat (step_full k x xs e) ∙ ap (λ t. x ∷ t) h)
      (λ e. ap concat (step_open k x xs e) ∙ (concat-glue x (nodes_from mark (k + 1) xs) ∙ ap (λ t. x ∷ t) o))
      (cases_Bool (full (k + 1) (mark x)))

  pub not_none : (k : ℕ) (x : X) (xs : List X) → nodes_from mark k (x ∷ xs) ≡ [] → ⊥
  not_none k x xs e = cons_some x xs (sym (concat-nodes k (x ∷ xs)) ∙ ap concat e)

  -- the count in the open node goes on over ++
  pub held_append : (k : ℕ) (xs ys : List X) → held_from mark k (xs ++ ys) ≡ held_from mark (held_from mark k xs) ys
  held_append k [] ys = refl
  held_append k (x ∷ xs) ys =
      let h = held_append 0 xs ys in
      let o = held_append (k + 1) xs ys in
      ⊎_elim
      (λ e. held_full k x (xs ++ ys) e ∙ (h ∙ sym (ap (λ t. held_from mark t ys) (held_full k x xs e))))
      (λ e. held_open k x (xs ++ ys) e ∙ (o ∙ sym (ap (λ t. held_from mark t ys) (held_open k x xs e))))
      (cases_Bool (full (k + 1) (mark x)))

  -- splitting restarts at a boundary
  pub restart : (k : ℕ) (xs ys : List X) → held_from mark k xs ≡ 0 → nodes_from mark k (xs ++ ys) ≡ nodes_from mark k xs ++ nodes_from mark 0 ys
  restart k [] ys h = ap (λ t. nodes_from mark t ys) h
  restart k (x ∷ []) ys h =
      ⊎_elim
      (λ e. step_full k x ys e ∙ sym (ap (λ t. t ++ nodes_from mark 0 ys) (step_full k x [] e)))
      (λ e. let z : k + 1 ≡ 0 = sym (held_open k x [] e) ∙ h in absurd (omega arith))
      (cases_Bool (full (k + 1) (mark x)))
  restart k (x ∷ y ∷ zs) ys h =
      let r0 = restart 0 (y ∷ zs) ys in
      let r1 = restart (k + 1) (y ∷ zs) ys in
      ⊎_elim
      (λ e. step_full k x (y ∷ zs ++ ys) e ∙ (ap (λ t. (x ∷ []) ∷ t) (r0 (sym (held_full k x (y ∷ zs) e) ∙ h)) ∙ sym (ap (λ t. t ++ nodes_from mark 0 ys) (step_full k x (y ∷ zs) e))))
      (λ e. step_open k x (y ∷ zs ++ ys) e ∙ (ap (glue x) (r1 (sym (held_open k x (y ∷ zs) e) ∙ h)) ∙ (glue-append x (nodes_from mark (k + 1) (y ∷ zs)) (nodes_from mark 0 ys) (not_none (k + 1) y zs) ∙ sym (ap (λ t. t ++ nodes_from mark 0 ys) (step_open k x (y ∷ zs) e)))))
      (cases_Bool (full (k + 1) (mark x)))

  -- where a node of the split ends and another follows there is a boundary, and the nodes up to there are those of the entries up to there
  abbrev pub Front : ℕ → List (List X) → Type 0
  Front k fs = (held_from mark k (concat fs) ≡ 0) × (nodes_from mark k (concat fs) ≡ fs)

  nil_front : (k : ℕ) → k ≡ 0 → Front k []
  nil_front k e = (e, refl)

  front_full : (k : ℕ) (x : X) (fs : List (List X)) → full (k + 1) (mark x) ≡ true → Front 0 fs → Front k ((x ∷ []) ∷ fs)
  front_full k x fs e f =
      (held_full k x (concat fs) e ∙ f.0, step_full k x (concat fs) e ∙ ap (λ t. (x ∷ []) ∷ t) f.1)

  front_open : (k : ℕ) (x : X) (n : List X) (fs : List (List X)) → full (k + 1) (mark x) ≡ false → Front (k + 1) (n ∷ fs) → Front k ((x ∷ n) ∷ fs)
  front_open k x n fs e f =
      (held_open k x (n ++ concat fs) e ∙ f.0, step_open k x (n ++ concat fs) e ∙ ap (glue x) f.1)

  -- what is known of the nodes of the rest gives the front of x and the rest
  after_full : (k : ℕ) (x : X) (ms : List (List X)) → full (k + 1) (mark x) ≡ true
      → ((fs : List (List X)) (b : List X) (bs : List (List X)) → ms ≡ fs ++ b ∷ bs → Front 0 fs)
      → (fs : List (List X)) (b : List X) (bs : List (List X)) → (x ∷ []) ∷ ms ≡ fs ++ b ∷ bs → (fs ≡ [] → k ≡ 0) → Front k fs
  after_full k x ms e ih [] b bs q z = nil_front k (z refl)
  after_full k x ms e ih (a ∷ fs) b bs q z =
      let p : x ∷ [] ≡ a = cc in
      let r : ms ≡ fs ++ b ∷ bs = cc in
      rw (← p) (front_full k x fs e (ih fs b bs r))

  after_open : (k : ℕ) (x : X) (ms : List (List X)) → full (k + 1) (mark x) ≡ false
      → ((fs : List (List X)) (b : List X) (bs : List (List X)) → ms ≡ fs ++ b ∷ bs → (fs ≡ [] → k + 1 ≡ 0) → Front (k + 1) fs)
      → (fs : List (List X)) (b : List X) (bs : List (List X)) → glue x ms ≡ fs ++ b ∷ bs → (fs ≡ [] → k ≡ 0) → Front k fs
  after_open k x ms e ih [] b bs q z = nil_front k (z refl)
  after_open k x [] e ih (a ∷ fs) b bs q z = let r : [] ≡ fs ++ b ∷ bs = cc in absurd (no_cons fs b bs r)
  after_open k x (n ∷ ms) e ih (a ∷ fs) b bs q z =
      let p : x ∷ n ≡ a = cc in
      let r : n ∷ ms ≡ (n ∷ fs) ++ b ∷ bs = cc in
      let w : n ∷ fs ≡ [] → k + 1 ≡ 0 = λ c. cc in
      rw (← p) (front_open k x n fs e (ih (n ∷ fs) b bs r w))

  pub front : (k : ℕ) (xs : List X) (fs : List (List X)) (b : List X) (bs : List (List X)) → nodes_from mark k xs ≡ fs ++ b ∷ bs → (fs ≡ [] → k ≡ 0) → Front k fs
  front k [] fs b bs q z = absurd (no_cons fs b bs q)
  front k (x ∷ xs) fs b bs q z =
      let h = front 0 xs in
      let o = front (k + 1) xs in
      ⊎_elim
      (λ e. after_full k x (nodes_from mark 0 xs) e (λ cs d ds r. h cs d ds r (λ t. refl)) fs b bs (sym (step_full k x xs e) ∙ q) z)
      (λ e. after_open k x (nodes_from mark (k + 1) xs) e o fs b bs (sym (step_open k x xs e) ∙ q) z)
      (cases_Bool (full (k + 1) (mark x)))

  -- the nodes behind a boundary of an old split are those of the entries behind it
  pub back : (xs : List X) (fs bs : List (List X)) → nodes mark xs ≡ fs ++ bs → nodes mark (concat bs) ≡ bs
  back xs fs [] q = refl
  back xs fs (b ∷ bs) q =
      let f = front 0 xs fs b bs q (λ _. refl) in
      let e : xs ≡ concat fs ++ concat (b ∷ bs) = sym (concat-nodes 0 xs) ∙ (ap concat q ∙ concat-append fs (b ∷ bs)) in
      let r = restart 0 (concat fs) (concat (b ∷ bs)) f.0 in
      append_cancel_left fs (nodes mark (concat (b ∷ bs))) (b ∷ bs)
      (ap (λ t. t ++ nodes mark (concat (b ∷ bs))) (sym f.1) ∙ (sym r ∙ (ap (nodes mark) (sym e) ∙ q)))

  -- A level is edited: the old nodes are fs, o ∷ os and bs; the entries of o ∷ os become new, and new ends at a boundary, or nothing is behind it.
  pub resync : (xs new : List X) (fs : List (List X)) (o : List X) (os bs : List (List X))
      → nodes mark xs ≡ fs ++ ((o ∷ os) ++ bs)
      → (held_from mark 0 new ≡ 0) ⊎ (bs ≡ [])
      → nodes mark (concat fs ++ (new ++ concat bs)) ≡ fs ++ (nodes mark new ++ bs)
  resync xs new fs o os bs q h =
      let f = front 0 xs fs o (os ++ bs) q (λ _. refl) in
      let bk = back xs (fs ++ (o ∷ os)) bs (q ∙ sym (append_assoc fs (o ∷ os) bs)) in
      let r = restart 0 (concat fs) (new ++ concat bs) f.0 in
      let m : nodes mark (new ++ concat bs) ≡ nodes mark new ++ bs =
      ⊎_elim
      (λ e. restart 0 new (concat bs) e ∙ ap (λ t. nodes mark new ++ t) bk)
      (λ e. ap (λ t. nodes mark (new ++ concat t)) e ∙ (ap (nodes mark) (append-nil new) ∙ (sym (append-nil (nodes mark new)) ∙ ap (λ t. nodes mark new ++ t) (sym e))))
      h
      in
      r ∙ (ap (λ t. t ++ nodes mark (new ++ concat bs)) f.1 ∙ ap (λ t. fs ++ t) m)

  -- every node but the last has two entries or more, so a level halves
  glue_same : (x y : X) (ys : List X) (k : ℕ) → length (glue x (nodes_from mark k (y ∷ ys))) ≡ length (nodes_from mark k (y ∷ ys))
  glue_same x y ys k = at (nodes_from mark k (y ∷ ys)) (not_none k y ys)
    where
      at : (ns : List (List X)) → (ns ≡ [] → ⊥) → length (glue x ns) ≡ length ns
      at [] h = absurd (h refl)
      at (n ∷ ns) h = refl

  pub halves_from : (k : ℕ) (xs : List X) → 2 * length (nodes_from mark k xs) ≤ length xs + (1 + min k 1)
  halves_from k [] = omega arith
  halves_from k (x ∷ []) =
      ⊎_elim
      (λ e. omega (arith, ap length (step_full k x [] e), full_two k (mark x) e))
      (λ e. omega (arith, ap length (step_open k x [] e)))
      (cases_Bool (full (k + 1) (mark x)))
  halves_from k (x ∷ y ∷ ys) =
      let h = halves_from 0 (y ∷ ys) in
      let o = halves_from (k + 1) (y ∷ ys) in
      ⊎_elim
      (λ e. omega (arith, h, ap length (step_full k x (y ∷ ys) e), full_two k (mark x) e))
      (λ e. omega (arith, o, ap length (step_open k x (y ∷ ys) e), glue_same x y ys (k + 1)))
      (cases_Bool (full (k + 1) (mark x)))

  pub halves : (xs : List X) → 2 * length (nodes mark xs) ≤ length xs + 1
  halves xs = omega (arith, halves_from 0 xs)

  pub halved : (f : ℕ) (xs : List X) → length xs ≤ 2 ^ suc f → length (nodes mark xs) ≤ 2 ^ f
  halved f xs h = omega (arith, halves xs, pow-suc 2 f)
