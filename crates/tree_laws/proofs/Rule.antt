-- The rule as a relation fixes the nodes, and the nodes obey it.
use Rattle.std.proofs.Common.{◌≡◌, ℕ, ◌+◌, Bool, true, false, ◌||◌, List, [], ◌∷◌, ◌++◌, sym, refl, ap, ◌∙◌, subst, ⊎_elim}
use Rattle.std.proofs.lemmas.List.{append-nil}
use Rattle.std.proofs.lemmas.Bool.{cases_Bool, or_left, or_right, cond-true}
use Rattle.tree_laws.specs.Boundary.{none_left, full, closes, glue, nodes_from, nodes, concat, Obeys, AllObey}
use Rattle.tree_laws.proofs.Local.{step_full, step_open, not_none}

pub or_no : (b : Bool) → (b || false) ≡ true → b ≡ true
or_no true e = refl
or_no false e = e

module _ {X : Type 0} (mark : X → Bool) where
  -- a node that obeys the rule and is followed by others is the first one
  node_first : (k : ℕ) (n m : List X) (ms : List (List X)) → Obeys mark k n false → nodes_from mark k (n ++ concat (m ∷ ms)) ≡ n ∷ nodes_from mark 0 (concat (m ∷ ms))
  node_first k [] m ms h = absurd h
  node_first k (x ∷ []) m ms h = step_full mark k x (concat (m ∷ ms)) (or_no (full (k + 1) (mark x)) h)
  node_first k (x ∷ y ∷ ys) m ms h = step_open mark k x (y ∷ ys ++ concat (m ∷ ms)) h.0 ∙ ap (glue x) (node_first (k + 1) (y ∷ ys) m ms h.1)

  -- the last one
  node_last : (k : ℕ) (n : List X) → Obeys mark k n true → nodes_from mark k n ≡ n ∷ []
  node_last k [] h = absurd h
  node_last k (x ∷ []) h = cond-true (closes (k + 1) (mark x) true) _ _ h
  node_last k (x ∷ y ∷ ys) h = step_open mark k x (y ∷ ys) h.0 ∙ ap (glue x) (node_last (k + 1) (y ∷ ys) h.1)

  -- nodes that obey the rule are the nodes of their entries: the rule fixes them
  pub rule_fixes : (ns : List (List X)) → AllObey mark 0 ns → nodes mark (concat ns) ≡ ns
  rule_fixes [] h = refl
  rule_fixes (n ∷ []) h = ap (nodes mark) (append-nil n) ∙ node_last 0 n h.0
  rule_fixes (n ∷ m ∷ ms) h = node_first 0 n m ms h.0 ∙ ap (λ t. n ∷ t) (rule_fixes (m ∷ ms) h.1)

  glued : (k : ℕ) (x : X) (ns : List (List X)) → (ns ≡ [] → ⊥) → full (k + 1) (mark x) ≡ false → AllObey mark (k + 1) ns → AllObey mark k (glue x ns)
  glued k x [] h e a = absurd (h refl)
  glued k x ([] ∷ ns) h e a = absurd a.0
  glued k x ((y ∷ ys) ∷ ns) h e a = ((e, a.0), a.1)

  -- and the nodes obey it
  pub rule_holds : (k : ℕ) (xs : List X) → AllObey mark k (nodes_from mark k xs)
  rule_holds k [] = tt
  rule_holds k (x ∷ []) =
      let P : List (List X) → Type 0 = λ ns. AllObey mark k ns in
      subst P (sym (cond-true (closes (k + 1) (mark x) true) ((x ∷ []) ∷ []) ((x ∷ []) ∷ []) (or_right (full (k + 1) (mark x)) true refl))) (or_right (full (k + 1) (mark x)) true refl, tt)
  rule_holds k (x ∷ y ∷ ys) =
      let P : List (List X) → Type 0 = λ ns. AllObey mark k ns in
      let h = rule_holds 0 (y ∷ ys) in
      let o = rule_holds (k + 1) (y ∷ ys) in
      ⊎_elim
      (λ (e : full (k + 1) (mark x) ≡ true). subst P (sym (step_full mark k x (y ∷ ys) e)) (or_left (full (k + 1) (mark x)) (none_left (nodes_from mark 0 (y ∷ ys))) e, h))
      (λ (e : full (k + 1) (mark x) ≡ false). subst P (sym (step_open mark k x (y ∷ ys) e)) (glued k x (nodes_from mark (k + 1) (y ∷ ys)) (not_none mark (k + 1) y ys) e o))
      (cases_Bool (full (k + 1) (mark x)))
