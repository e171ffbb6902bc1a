-- Entries one behind the other, as a reader meets them.
use Rattle.std.proofs.Common.{◌≡◌, ℕ, ◌+◌, ◌-◌, ◌<◌, ◌≤◌, Bool, true, false, ◌≢◌, List, [], ◌∷◌, ◌++◌, length, Some, None, Option, sym, refl, ap, ◌∙◌, subst, ap₂, arith, MatchOption}
use Rattle.std.specs.List.{flat_map}
use Rattle.std.proofs.lemmas.List.{append_assoc, append-nil, length-append, length_push, nil_from_length, flat_map_more}
use Rattle.table.specs.Table.{Rising}
use Rattle.tree_laws.specs.Layout.{sized}
use Rattle.tree_laws.proofs.Layouts.{same_sized}
use Rattle.node.specs.Items.{item_bytes}
use Rattle.node.specs.Nodes.{Listed, Steps}
use Rattle.node.proofs.Rises.{rising_push, rising_tail}

-- what follows from what a clause says of each case
pub weaker : {X P P' : Type 0} {Q Q' : X → Type 0} → (o : Option X) → MatchOption o P Q → (P → P') → ((x : X) → Q x → Q' x) → MatchOption o P' Q'
weaker None h p q = p h
weaker (Some x) h p q = q x h

-- the bytes tell where an entry ends, and which it is
abbrev pub Apart : {I : Type 0} → (I → List ℕ) → Type 0
Apart {I} bytes = (x y : I) (s t : List ℕ) → bytes x ++ s ≡ bytes y ++ t → (x ≡ y) × (s ≡ t)

module _ {K I : Type 0} (code : K → List ℕ) (named : I → K) (value : I → List ℕ) where
  item_parts : (x : I) (t : List ℕ) → item_bytes code named value x ++ t ≡ sized (code (named x)) ++ (value x ++ t)
  item_parts x t = append_assoc (sized (code (named x))) (value x) t

  -- a key tells its length, and what stands behind it tells the rest
  pub item_apart : ((x y : K) → code x ≡ code y → x ≡ y) → ((x y : I) (s t : List ℕ) → named x ≡ named y → value x ++ s ≡ value y ++ t → (x ≡ y) × (s ≡ t)) → Apart (item_bytes code named value)
  item_apart keys values x y s t e =
      let h = same_sized (code (named x)) (code (named y)) (value x ++ s) (value y ++ t) (sym (item_parts x s) ∙ (e ∙ item_parts y t)) in
      values x y s t (keys (named x) (named y) h.0) h.1

  -- what stands behind a key that was read is what stands behind the entry's
  pub item_behind : (s a r : List ℕ) (x : I) (t : List ℕ) → s ≡ sized a ++ r → s ≡ item_bytes code named value x ++ t → (a ≡ code (named x)) × (r ≡ value x ++ t)
  item_behind s a r x t h e = same_sized a (code (named x)) r (value x ++ t) (sym h ∙ (e ∙ item_parts x t))

  -- a key and then what stands behind it
  pub item_read : (s a r : List ℕ) (x : I) (t : List ℕ) → s ≡ sized a ++ r → code (named x) ≡ a → r ≡ value x ++ t → s ≡ item_bytes code named value x ++ t
  item_read s a r x t h k e = h ∙ (ap₂ (λ u v. sized u ++ v) (sym k) e ∙ sym (item_parts x t))

module _ {I : Type 0} (bytes : I → List ℕ) (apart : Apart bytes) where
  -- what was read is the front of all entries with these bytes
  pub front : (xs ys : List I) (t : List ℕ) → length xs ≤ length ys → flat_map bytes xs ++ t ≡ flat_map bytes ys → (zs : List I) × (ys ≡ xs ++ zs) × (t ≡ flat_map bytes zs)
  front [] ys t n e = (ys, refl, e)
  front (x ∷ xs) [] t n e = absurd (omega (arith, n))
  front (x ∷ xs) (y ∷ ys) t n e =
      let h = apart x y (flat_map bytes xs ++ t) (flat_map bytes ys) (sym (append_assoc (bytes x) (flat_map bytes xs) t) ∙ e) in
      let r = front xs ys t (omega (arith, n)) h.1 in
      (r.0, ap₂ (λ u v. u ∷ v) (sym h.0) r.1, r.2)

  -- as many entries with the same bytes are the same
  pub lists_same : (xs ys : List I) → length xs ≡ length ys → flat_map bytes xs ≡ flat_map bytes ys → xs ≡ ys
  lists_same xs ys n e =
      let r = front xs ys [] (omega (arith, n)) (append-nil (flat_map bytes xs) ∙ e) in
      let z = nil_from_length r.0 (omega (arith, n, ap length r.1, length-append xs r.0)) in
      sym (r.1 ∙ (ap (λ w. xs ++ w) z ∙ append-nil xs))

  -- the entry that was read is the next one
  pub step_over : (rest s : List ℕ) (left : ℕ) (x : I) → left ≢ 0 → rest ≡ bytes x ++ s → Steps bytes rest left (Some x) s (left - 1)
  step_over rest s left x some e [] q l = absurd (some l)
  step_over rest s left x some e (y ∷ ys) q l =
      let h = apart y x (flat_map bytes ys) s (sym q ∙ e) in
      (ap Some (sym h.0), sym h.1, omega (arith, l))

-- neighbours in a rising list
rising_mid : {X : Type 0} (lt : X → X → Bool) (us : List X) (u v : X) (vs : List X) → Rising lt ((us ++ u ∷ []) ++ v ∷ vs) → lt u v ≡ true
rising_mid lt [] u v vs h = h.0
rising_mid lt (w ∷ us) u v vs h = rising_mid lt us u v vs (rising_tail lt w ((us ++ u ∷ []) ++ v ∷ vs) h)

-- the key of the last entry, or none where there is no entry
abbrev pub Ends : {K I : Type 0} → (I → K) → Option K → List I → Type 0
Ends {I = I} named last xs = MatchOption last (xs ≡ []) (λ k. (us : List I) × (u : I) × (xs ≡ us ++ u ∷ []) × (named u ≡ k))

-- a reader has read so many entries in key order, has a rest of the bytes before it, and holds the key of the last
pub record SoFar {K I : Type 0} (bytes : I → List ℕ) (before : K → K → Bool) (named : I → K) (body rest : List ℕ) (count : ℕ) (last : Option K) : Type 0 where
  pub items : List I
  pub many : length items ≡ count
  pub rising : Rising (λ x y. before (named x) (named y)) items
  pub text : body ≡ flat_map bytes items ++ rest
  pub ends : Ends named last items

module _ {K I : Type 0} (code : K → List ℕ) (before : K → K → Bool) (named : I → K) (value : I → List ℕ) where
  abbrev bytes : I → List ℕ
  bytes = item_bytes code named value

  abbrev lt : I → I → Bool
  lt x y = before (named x) (named y)

  -- a key may stand behind the last
  abbrev pub MayFollow : Option K → K → Bool → Type 0
  MayFollow last key r = MatchOption last (r ≡ true) (λ k. r ≡ before k key)

  module _ (body rest : List ℕ) (i : ℕ) (last : Option K) (h : SoFar bytes before named body rest i last) where
    grown : (x : I) → (o : Option K) → Ends named o h.items → MayFollow o (named x) true → Rising lt (h.items ++ x ∷ [])
    grown x None nil m = subst (λ w. Rising lt (w ++ x ∷ [])) (sym nil) tt
    grown x (Some k) e m =
        let p = ap (λ w. before w (named x)) e.3 ∙ sym m in
        subst (λ w. Rising lt (w ++ x ∷ [])) (sym e.2) (rising_push lt e.0 e.1 x (subst (Rising lt) e.2 h.rising) p)

    -- one entry more
    pub one_more : (x : I) (key : K) (t : List ℕ) → rest ≡ bytes x ++ t → key ≡ named x → MayFollow last key true → SoFar bytes before named body t (i + 1) (Some key)
    one_more x key t e k m = record {
      items = h.items ++ x ∷ [];
      many = length_push h.items x ∙ ap (λ w. w + 1) h.many;
      rising = grown x last h.ends (subst (λ w. MayFollow last w true) k m);
      text = h.text ∙ (ap (λ w. flat_map bytes h.items ++ w) e ∙ (sym (append_assoc (flat_map bytes h.items) (bytes x) t) ∙ ap (λ w. w ++ t) (flat_map_more bytes [] h.items x)));
      ends = (h.items, x, refl, sym k);
    }

    -- nothing is left
    pub all_read : rest ≡ [] → Listed code before named value i body h.items
    all_read z = record { many = h.many; rising = h.rising; text = h.text ∙ (ap (λ w. flat_map bytes h.items ++ w) z ∙ append-nil (flat_map bytes h.items)) }

    module _ (apart : Apart bytes) (count : ℕ) (ys : List I) (y : Listed code before named value count body ys) where
      others : i ≤ count → (zs : List I) × (ys ≡ h.items ++ zs) × (rest ≡ flat_map bytes zs)
      others l = front bytes apart h.items ys rest (omega (arith, h.many, y.many)) (sym h.text ∙ y.text)

      -- where others must follow, the next one can be read
      next : i < count → (z : I) × (zs : List I) × (ys ≡ h.items ++ z ∷ zs) × (rest ≡ bytes z ++ flat_map bytes zs)
      next l =
          let r = others (omega arith) in
          first r.0 r.1 r.2 (omega (arith, ap length r.1, length-append h.items r.0, h.many, y.many))
        where
          first : (zs : List I) → ys ≡ h.items ++ zs → rest ≡ flat_map bytes zs → 0 < length zs → (z : I) × (ws : List I) × (ys ≡ h.items ++ z ∷ ws) × (rest ≡ bytes z ++ flat_map bytes ws)
          first [] p q n = absurd (omega (arith, n))
          first (z ∷ ws) p q n = (z, ws, p, q)

      -- so a place where none can be read ends no list
      pub unread : i < count → ((x : I) (t : List ℕ) → rest ≡ bytes x ++ t → ⊥) → ⊥
      unread l none = let r = next l in none r.0 (flat_map bytes r.1) r.3

      ordered : (x : I) (zs : List I) → ys ≡ h.items ++ x ∷ zs → (o : Option K) → Ends named o h.items → MayFollow o (named x) false → ◌≡◌ {A = Bool} false true
      ordered x zs e None nil m = m
      ordered x zs e (Some k) p m = m ∙ (ap (λ w. before w (named x)) (sym p.3) ∙ rising_mid lt p.0 p.1 x zs (subst (Rising lt) (e ∙ ap (λ w. w ++ x ∷ zs) p.2) y.rising))

      -- the next one is the one that was read, and so its key stands behind the last
      pub unordered : i < count → (x : I) (key : K) (t : List ℕ) → rest ≡ bytes x ++ t → key ≡ named x → MayFollow last key false → ◌≡◌ {A = Bool} false true
      unordered l x key t e k m =
          let r = next l in
          let same = (apart r.0 x (flat_map bytes r.1) t (sym r.3 ∙ e)).0 in
          ordered x r.1 (r.2 ∙ ap (λ w. h.items ++ w ∷ r.1) same) last h.ends (subst (λ w. MayFollow last w false) k m)

      -- where none is to follow, no byte is left
      pub to_the_end : i ≡ count → rest ≡ []
      to_the_end l =
          let r = others (omega arith) in
          r.2 ∙ ap (flat_map bytes) (nil_from_length r.0 (omega (arith, ap length r.1, length-append h.items r.0, h.many, y.many)))
