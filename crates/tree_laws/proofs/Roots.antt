-- Two tables with one root address are one table, or two of their chunks collide.
use Rattle.std.proofs.Common.{◌≡◌, ℕ, zero, suc, ◌^◌, ◌≤◌, true, false, ◌⊎◌, List, [], ◌∷◌, ◌++◌, map, length, get_or, sym, refl, ap, ◌∙◌, subst, inl, inr, ⊎_elim, arith}
use Rattle.std.specs.List.{AllByRecursion}
use Rattle.std.proofs.lemmas.List.{length-map, map-append, map-id}
use Rattle.std.proofs.ByRecursion.{All-map}
use Rattle.std.proofs.lemmas.Bool.{true≢false, cases_Bool}
use Rattle.tree_laws.specs.Boundary.{nodes, concat}
use Rattle.digest.specs.declared.address.Address.{Address}
use Rattle.digest.specs.Bytes.{Whole}
use Rattle.store.specs.Meaning.{same_bytes}
use Rattle.store.proofs.Slots.{same_bytes_self, one_bytes}
use Rattle.tree_laws.specs.Layout.{Row, Child, leaf_bytes, inner_bytes}
use Rattle.tree_laws.specs.Tree.{Some, row_marked, child_marked, leaves, leaf_child, inner_child, up, chunks_up, root, chunks, Collision}
use Rattle.tree_laws.specs.Laws.{AllWhole, most_rows}
use Rattle.tree_laws.proofs.Local.{cons_some, halves, halved, concat-nodes, not_none}
use Rattle.tree_laws.proofs.Layouts.{leaf_same, inner_same}

-- two byte strings are equal or not
pub cases_bytes : (a b : List ℕ) → (a ≡ b) ⊎ (a ≡ b → ⊥)
cases_bytes a b =
    ⊎_elim
    (λ (t : same_bytes a b ≡ true). inl (one_bytes a b t))
    (λ (f : same_bytes a b ≡ false). inr (λ e. true≢false (sym (same_bytes_self a) ∙ (ap (same_bytes a) e ∙ f))))
    (cases_Bool (same_bytes a b))

some_left : {X : Type 0} (P : X → Type 0) (xs ys : List X) → Some P xs → Some P (xs ++ ys)
some_left P [] ys h = absurd h
some_left P (x ∷ xs) ys (inl h) = inl h
some_left P (x ∷ xs) ys (inr h) = inr (some_left P xs ys h)

some_right : {X : Type 0} (P : X → Type 0) (xs ys : List X) → Some P ys → Some P (xs ++ ys)
some_right P [] ys h = h
some_right P (x ∷ xs) ys h = inr (some_right P xs ys h)

some_map : {X : Type 0} (P Q : X → Type 0) → ((x : X) → P x → Q x) → (xs : List X) → Some P xs → Some Q xs
some_map P Q f [] h = absurd h
some_map P Q f (x ∷ xs) (inl h) = inl (f x h)
some_map P Q f (x ∷ xs) (inr h) = inr (some_map P Q f xs h)

each : {X : Type 0} (P : X → Type 0) → ((x : X) → P x) → (xs : List X) → AllByRecursion P xs
each P h [] = tt
each P h (x ∷ xs) = (h x, each P h xs)

all_parts : {X : Type 0} (P : X → Type 0) (xs ys : List X) → AllByRecursion P (xs ++ ys) → AllByRecursion P xs × AllByRecursion P ys
all_parts P [] ys h = (tt, h)
all_parts P (x ∷ xs) ys h = let r = all_parts P xs ys h.1 in ((h.0, r.0), r.1)

-- what holds of all entries holds of those of each node
pub all_concat : {X : Type 0} (P : X → Type 0) (ns : List (List X)) → AllByRecursion P (concat ns) → AllByRecursion (AllByRecursion P) ns
all_concat P [] h = tt
all_concat P (n ∷ ns) h = let r = all_parts P n (concat ns) h in (r.0, all_concat P ns r.1)

pub concat_leaves : (rs : List Row) → concat (leaves rs) ≡ rs
concat_leaves [] = refl
concat_leaves (r ∷ rs) = concat-nodes row_marked 0 (r ∷ rs)

pub leaves_some : (rs : List Row) → leaves rs ≡ [] → ⊥
leaves_some [] e = cons_some [] [] e
leaves_some (r ∷ rs) e = not_none row_marked 0 r rs e

pub leaves_few : (rs : List Row) → length rs ≤ most_rows → length (leaves rs) ≤ 2 ^ 15
leaves_few [] h = omega arith
leaves_few (r ∷ rs) h = omega (arith, halves row_marked (r ∷ rs))

-- what one level is, for the induction: its entries, what the bytes of a node fix of them, and the entry above a node
pub record Base (d : List ℕ → Address) (X V : Type 0) (l : ℕ) : Type 1 where
  pub view : X → V
  pub bytes : List X → List ℕ
  pub child : List X → Child
  pub Ok : List X → Type 0
  pub child_at : (n : List X) → (child n).at ≡ d (bytes n)
  pub level_at : (n : List X) → get_or (bytes n) 2 0 ≡ l
  pub fixes : (n m : List X) → Ok n → Ok m → bytes n ≡ bytes m → map view n ≡ map view m

module _ (d : List ℕ → Address) (whole : (b : List ℕ) → Whole (d b)) (kind : ℕ) where
  abbrev pub leaf_base : Base d Row Row 0
  leaf_base = record {
    view = λ r. r;
    bytes = leaf_bytes kind;
    child = leaf_child d kind;
    Ok = λ _. Unit {0};
    child_at = λ n. refl;
    level_at = λ n. refl;
    fixes = λ n m a b e. ap (map (λ r. r)) (leaf_same kind n m e);
  }

  abbrev pub inner_base : (l : ℕ) → Base d Child Address l
  inner_base l = record {
    view = λ c. c.at;
    bytes = inner_bytes kind l;
    child = inner_child d kind l;
    Ok = AllWhole;
    child_at = λ n. refl;
    level_at = λ n. refl;
    fixes = inner_same kind l;
  }

  collide_left : (as' cs bs ds : List (List ℕ)) → Collision d kind as' bs → Collision d kind (as' ++ cs) (bs ++ ds)
  collide_left xs cs bs ds h = some_left _ xs cs (some_map _ _ (λ a. some_left _ bs ds) xs h)

  collide_right : (as' cs bs ds : List (List ℕ)) → Collision d kind cs ds → Collision d kind (as' ++ cs) (bs ++ ds)
  collide_right xs cs bs ds h = some_right _ xs cs (some_map _ _ (λ a. some_right _ bs ds) cs h)

  module _ {X V : Type 0} {l : ℕ} (B : Base d X V l) where
    children_whole : (ns : List (List X)) → AllWhole (map B.child ns)
    children_whole ns = All-map (λ c. Whole c.at) B.child ns (each _ (λ n. subst Whole (sym (B.child_at n)) (whole (B.bytes n))) ns)

    -- nodes with equal addresses have equal entries, or two of them collide
    nodes_same : (ns ms : List (List X)) → AllByRecursion B.Ok ns → AllByRecursion B.Ok ms
        → map (λ c. c.at) (map B.child ns) ≡ map (λ c. c.at) (map B.child ms)
        → (map B.view (concat ns) ≡ map B.view (concat ms)) ⊎ Collision d kind (map B.bytes ns) (map B.bytes ms)
    nodes_same [] [] a b e = inl refl
    nodes_same [] (m ∷ ms) a b e = absurd (cons_some _ _ (sym e))
    nodes_same (n ∷ ns) [] a b e = absurd (cons_some _ _ e)
    nodes_same (n ∷ ns) (m ∷ ms) a b e =
        let h : (B.child n).at ≡ (B.child m).at = cc in
        let t : map (λ c. c.at) (map B.child ns) ≡ map (λ c. c.at) (map B.child ms) = cc in
        let q : d (B.bytes n) ≡ d (B.bytes m) = sym (B.child_at n) ∙ (h ∙ B.child_at m) in
        let rest = nodes_same ns ms a.1 b.1 t in
        ⊎_elim
        (λ (s : B.bytes n ≡ B.bytes m).
        let v = B.fixes n m a.0 b.0 s in
        ⊎_elim
        (λ (r : map B.view (concat ns) ≡ map B.view (concat ms)).
        inl (map-append B.view n (concat ns) ∙ (ap (λ w. w ++ map B.view (concat ns)) v ∙ (ap (λ w. map B.view m ++ w) r ∙ sym (map-append B.view m (concat ms))))))
        (λ (c : Collision d kind (map B.bytes ns) (map B.bytes ms)).
        inr (collide_right (B.bytes n ∷ []) (map B.bytes ns) (B.bytes m ∷ []) (map B.bytes ms) c))
        rest)
        (λ (s : B.bytes n ≡ B.bytes m → ⊥). inr (inl (inl (s, q))))
        (cases_bytes (B.bytes n) (B.bytes m))

  -- the root is a chunk of the tree, of this level or a higher one
  top_chunk : (f l : ℕ) (ns : List (List Child)) → (ns ≡ [] → ⊥) → length ns ≤ 2 ^ f
      → Some (λ b. ((up d kind f (suc l) (map (inner_child d kind l) ns)).at ≡ d b) × (l ≤ get_or b 2 0))
      (map (inner_bytes kind l) ns ++ chunks_up d kind f (suc l) (map (inner_child d kind l) ns))
  top_chunk f l [] h le = absurd (h refl)
  top_chunk f l (n ∷ []) h le = inl (refl, omega arith)
  top_chunk zero l (n ∷ m ∷ ms) h le = absurd (omega (arith, le))
  top_chunk (suc f) l (n ∷ m ∷ ms) h le =
      let cs = map (inner_child d kind l) (n ∷ m ∷ ms) in
      let lc : length cs ≤ 2 ^ suc f = rw length-map le in
      let ih = top_chunk f (suc l) (nodes (child_marked (suc l)) cs) (not_none (child_marked (suc l)) 0 (inner_child d kind l n) (map (inner_child d kind l) (m ∷ ms))) (halved (child_marked (suc l)) f cs lc) in
      some_right _ (map (inner_bytes kind l) (n ∷ m ∷ ms)) _ (some_map _ _ (λ b p. (p.0, omega (arith, p.1))) _ ih)

  -- one node below a root of this level, several below the other's: the roots' chunks have different levels
  module _ {X V : Type 0} {l : ℕ} (B : Base d X V l) where
    uneven : (f : ℕ) (n m o : List X) (ms : List (List X)) → length (m ∷ o ∷ ms) ≤ 2 ^ suc f
        → d (B.bytes n) ≡ (up d kind (suc f) (suc l) (map B.child (m ∷ o ∷ ms))).at
        → Some (λ b. (B.bytes n ≡ b → ⊥) × (d (B.bytes n) ≡ d b)) (chunks_up d kind (suc f) (suc l) (map B.child (m ∷ o ∷ ms)))
    uneven f n m o ms le e =
        let cs = map B.child (m ∷ o ∷ ms) in
        let lc : length cs ≤ 2 ^ suc f = rw length-map le in
        let top = top_chunk f (suc l) (nodes (child_marked (suc l)) cs) (not_none (child_marked (suc l)) 0 (B.child m) (map B.child (o ∷ ms))) (halved (child_marked (suc l)) f cs lc) in
        some_map _ _ (λ b p. ((λ (q : B.bytes n ≡ b). let w : l ≡ get_or b 2 0 = sym (B.level_at n) ∙ ap (λ t. get_or t 2 0) q in omega (arith, w, p.1)), e ∙ p.0)) _ top

  swap : (xs : List ℕ) (bs : List (List ℕ)) → Some (λ b. (xs ≡ b → ⊥) × (d xs ≡ d b)) bs → Collision d kind bs (xs ∷ [])
  swap xs [] h = absurd h
  swap xs (b ∷ bs) (inl h) = inl (inl ((λ e. h.0 (sym e)), sym h.1))
  swap xs (b ∷ bs) (inr h) = inr (swap xs bs h)

  -- two trees from one level up: one root address, so the same entries on this level, or two chunks that collide
  pub level_same : (f : ℕ) {X V : Type 0} {l : ℕ} (B : Base d X V l) (ns ms : List (List X))
      → (ns ≡ [] → ⊥) → (ms ≡ [] → ⊥) → length ns ≤ 2 ^ f → length ms ≤ 2 ^ f → AllByRecursion B.Ok ns → AllByRecursion B.Ok ms
      → (up d kind f (suc l) (map B.child ns)).at ≡ (up d kind f (suc l) (map B.child ms)).at
      → (map B.view (concat ns) ≡ map B.view (concat ms))
      ⊎ Collision d kind (map B.bytes ns ++ chunks_up d kind f (suc l) (map B.child ns)) (map B.bytes ms ++ chunks_up d kind f (suc l) (map B.child ms))
  level_same f B [] ms hn hm ln lm an am e = absurd (hn refl)
  level_same f B (n ∷ ns) [] hn hm ln lm an am e = absurd (hm refl)
  level_same f B (n ∷ []) (m ∷ []) hn hm ln lm an am e =
      ⊎_elim inl (λ c. inr (collide_left (B.bytes n ∷ []) [] (B.bytes m ∷ []) [] c)) (nodes_same B (n ∷ []) (m ∷ []) an am (ap (λ w. w ∷ []) e))
  level_same zero B (n ∷ []) (m ∷ o ∷ ms) hn hm ln lm an am e = absurd (omega (arith, lm))
  level_same (suc f) B (n ∷ []) (m ∷ o ∷ ms) hn hm ln lm an am e =
      inr (inl (some_right _ (map B.bytes (m ∷ o ∷ ms)) _ (uneven B f n m o ms lm (sym (B.child_at n) ∙ e))))
  level_same zero B (n ∷ p ∷ ns) (m ∷ ms) hn hm ln lm an am e = absurd (omega (arith, ln))
  level_same (suc f) B (n ∷ p ∷ ns) (m ∷ []) hn hm ln lm an am e =
      inr (collide_right (map B.bytes (n ∷ p ∷ ns)) _ [] (B.bytes m ∷ []) (swap (B.bytes m) _ (uneven B f m n p ns ln (sym (B.child_at m) ∙ sym e))))
  level_same (suc f) {l = l} B (n ∷ p ∷ ns) (m ∷ o ∷ ms) hn hm ln lm an am e =
      let cs = map B.child (n ∷ p ∷ ns) in
      let ds = map B.child (m ∷ o ∷ ms) in
      let mk = child_marked (suc l) in
      let lc : length cs ≤ 2 ^ suc f = rw length-map ln in
      let ld : length ds ≤ 2 ^ suc f = rw length-map lm in
      let sc : AllWhole (concat (nodes mk cs)) = rw (concat-nodes mk 0 cs) (children_whole B (n ∷ p ∷ ns)) in
      let sd : AllWhole (concat (nodes mk ds)) = rw (concat-nodes mk 0 ds) (children_whole B (m ∷ o ∷ ms)) in
      let ih = level_same f (inner_base (suc l)) (nodes mk cs) (nodes mk ds)
      (not_none mk 0 (B.child n) (map B.child (p ∷ ns))) (not_none mk 0 (B.child m) (map B.child (o ∷ ms)))
      (halved (child_marked (suc l)) f cs lc) (halved (child_marked (suc l)) f ds ld) (all_concat (λ c. Whole c.at) (nodes mk cs) sc) (all_concat (λ c. Whole c.at) (nodes mk ds) sd) e
      in
      ⊎_elim
      (λ h. ⊎_elim inl
      (λ c. inr (collide_left (map B.bytes (n ∷ p ∷ ns)) _ (map B.bytes (m ∷ o ∷ ms)) _ c))
      (nodes_same B (n ∷ p ∷ ns) (m ∷ o ∷ ms) an am
      (ap (map (λ c. c.at)) (sym (concat-nodes mk 0 cs)) ∙ (h ∙ ap (map (λ c. c.at)) (concat-nodes mk 0 ds)))))
      (λ c. inr (collide_right (map B.bytes (n ∷ p ∷ ns)) _ (map B.bytes (m ∷ o ∷ ms)) _ c))
      ih

  -- one root address: the same table, or two chunks, one of each tree, that differ and have one address
  pub root_same : (rs qs : List Row) → length rs ≤ most_rows → length qs ≤ most_rows → root d kind rs ≡ root d kind qs
      → (rs ≡ qs) ⊎ Collision d kind (chunks d kind rs) (chunks d kind qs)
  root_same rs qs lr lq e =
      ⊎_elim
      (λ h. inl (sym (concat_leaves rs) ∙ (sym (map-id (concat (leaves rs))) ∙ (h ∙ (map-id (concat (leaves qs)) ∙ concat_leaves qs)))))
      inr
      (level_same 15 leaf_base (leaves rs) (leaves qs) (leaves_some rs) (leaves_some qs) (leaves_few rs lr) (leaves_few qs lq) (each (λ _. Unit {0}) (λ _. tt) (leaves rs)) (each (λ _. Unit {0}) (λ _. tt) (leaves qs)) e)
