-- Cutting what a function gives is cutting its arguments.
use Rattle.std.proofs.Common.{◌≡◌, ℕ, ◌+◌, Bool, List, [], ◌∷◌, map, sym, refl, ap, ◌∙◌, ⊎_elim}
use Rattle.std.proofs.lemmas.Bool.{cases_Bool}
use Rattle.tree_laws.specs.Boundary.{full, glue, nodes_from, nodes}
use Rattle.tree_laws.proofs.Local.{step_full, step_open}

module _ {X Y : Type 0} (f : X → Y) where
  glue-map : (x : X) (ns : List (List X)) → glue (f x) (map (map f) ns) ≡ map (map f) (glue x ns)
  glue-map x [] = refl
  glue-map x (n ∷ ns) = refl

  module _ (mark : Y → Bool) where
    abbrev through : X → Bool
    through x = mark (f x)

    pub nodes_from-map : (k : ℕ) (xs : List X) → nodes_from mark k (map f xs) ≡ map (map f) (nodes_from (λ x. mark (f x)) k xs)
    nodes_from-map k [] = refl
    nodes_from-map k (x ∷ xs) =
        let h = nodes_from-map 0 xs in
        let o = nodes_from-map (k + 1) xs in
        ⊎_elim
        (λ e. step_full mark k (f x) (map f xs) e ∙ (ap (λ t. (f x ∷ []) ∷ t) h ∙ sym (ap (map (map f)) (step_full through k x xs e))))
        (λ e. step_open mark k (f x) (map f xs) e ∙ (ap (glue (f x)) o ∙ (glue-map x (nodes_from through (k + 1) xs) ∙ sym (ap (map (map f)) (step_open through k x xs e)))))
        (cases_Bool (full (k + 1) (mark (f x))))

    pub nodes-map : (xs : List X) → nodes mark (map f xs) ≡ map (map f) (nodes (λ x. mark (f x)) xs)
    nodes-map xs = nodes_from-map 0 xs
