-- The root by the rule: there is one, of level 15 at most.
use Rattle.std.proofs.Common.{◌≡◌, ℕ, zero, suc, ◌+◌, ◌^◌, ◌≤◌, List, [], ◌∷◌, map, length, refl, arith}
use Rattle.std.proofs.lemmas.List.{length-map}
use Rattle.digest.specs.declared.address.Address.{Address}
use Rattle.tree_laws.specs.Boundary.{nodes}
use Rattle.tree_laws.specs.Layout.{Row, Child}
use Rattle.tree_laws.specs.Tree.{child_marked, inner_child, leaf_child, leaves, next, up, Rises, one, more}
use Rattle.tree_laws.specs.Laws.{most_rows}
use Rattle.tree_laws.proofs.Local.{cons_some, halved, not_none}
use Rattle.tree_laws.proofs.Roots.{leaves_few, leaves_some}

map_some : {X Y : Type 0} (f : X → Y) (xs : List X) → (xs ≡ [] → ⊥) → map f xs ≡ [] → ⊥
map_some f [] h e = h refl
map_some f (x ∷ xs) h e = cons_some _ _ e

module _ (d : List ℕ → Address) (kind : ℕ) where
  pub next_few : (f l : ℕ) (cs : List Child) → length cs ≤ 2 ^ suc f → length (next d kind l cs) ≤ 2 ^ f
  next_few f l cs h = rw length-map (halved (child_marked l) f cs h)

  pub next_some : (l : ℕ) (c : Child) (cs : List Child) → next d kind l (c ∷ cs) ≡ [] → ⊥
  next_some l c cs = map_some (inner_child d kind l) (nodes (child_marked l) (c ∷ cs)) (not_none (child_marked l) 0 c cs)

  -- the fuel is enough: the root is the one that the rule gives, and each unit of fuel is a level at most
  pub rises : (f l : ℕ) (cs : List Child) → (cs ≡ [] → ⊥) → length cs ≤ 2 ^ f
      → (t : ℕ) × Rises d kind (suc l) cs t (up d kind f (suc l) cs) × (t ≤ l + f)
  rises f l [] h le = absurd (h refl)
  rises f l (c ∷ []) h le = (l, one, omega arith)
  rises zero l (c ∷ e ∷ es) h le = absurd (omega (arith, le))
  rises (suc f) l (c ∷ e ∷ es) h le =
      let ih = rises f (suc l) (next d kind (suc l) (c ∷ e ∷ es)) (next_some (suc l) c (e ∷ es)) (next_few f (suc l) (c ∷ e ∷ es) le) in
      (ih.0, more ih.1, omega (arith, ih.2))

  -- the rule gives one root, of one level
  pub rises_same : {l t u : ℕ} {cs : List Child} {r s : Child} → Rises d kind l cs t r → Rises d kind l cs u s → (t ≡ u) × (r ≡ s)
  rises_same one one = (refl, refl)
  rises_same (more p) (more q) = rises_same p q

  -- levels never pass 15
  pub root_level : (rs : List Row) → length rs ≤ most_rows
      → (t : ℕ) × Rises d kind 1 (map (leaf_child d kind) (leaves rs)) t (up d kind 15 1 (map (leaf_child d kind) (leaves rs))) × (t ≤ 15)
  root_level rs h =
      let r = rises 15 0 (map (leaf_child d kind) (leaves rs)) (map_some (leaf_child d kind) (leaves rs) (leaves_some rs)) (rw length-map (leaves_few rs h)) in
      (r.0, r.1, omega (arith, r.2))
