-- In one store two chunks do not collide, so that one root is one table.
use Rattle.std.proofs.Common.{◌≡◌, ℕ, List, [], ◌∷◌, sym, ap, ◌∙◌, inl, inr, ⊎_elim}
use Rattle.digest.specs.declared.address.Address.{Address}
use Rattle.digest.specs.Bytes.{Whole}
use Rattle.store.specs.Meaning.{Meaning, chunk}
use Rattle.store.specs.Laws.{AllHeld}
use Rattle.tree_laws.specs.Tree.{Some, chunks, Collision}
use Rattle.tree_laws.specs.Laws.{OneTable}
use Rattle.tree_laws.proofs.Roots.{root_same}

module _ (d : List ℕ → Address) (m : Meaning) where
  -- one chunk stands at an address
  one_chunk : (x y : List ℕ) → m.at (d x) ≡ chunk x → m.at (d y) ≡ chunk y → d x ≡ d y → x ≡ y
  one_chunk x y hx hy e =
      let c : chunk x ≡ chunk y = sym hx ∙ (ap m.at e ∙ hy) in
      cc

  apart_from : (x : List ℕ) (ys : List (List ℕ)) → m.at (d x) ≡ chunk x → AllHeld d m ys → Some (λ y. (x ≡ y → ⊥) × (d x ≡ d y)) ys → ⊥
  apart_from x [] hx hs s = s
  apart_from x (y ∷ ys) hx hs (inl p) = p.0 (one_chunk x y hx hs.0.0 p.1)
  apart_from x (y ∷ ys) hx hs (inr s) = apart_from x ys hx hs.1 s

  -- chunks that one store holds do not collide
  pub no_collision : (kind : ℕ) (xs ys : List (List ℕ)) → AllHeld d m xs → AllHeld d m ys → Collision d kind xs ys → ⊥
  no_collision kind [] ys hx hy c = c
  no_collision kind (x ∷ xs) ys hx hy (inl s) = apart_from x ys hx.0.0 hy s
  no_collision kind (x ∷ xs) ys hx hy (inr c) = no_collision kind xs ys hx.1 hy c

pub one_table : (d : List ℕ → Address) → ((b : List ℕ) → Whole (d b)) → OneTable d
one_table d whole m kind rs qs lr lq hr hq e =
    ⊎_elim
    (λ (same : rs ≡ qs). same)
    (λ (c : Collision d kind (chunks d kind rs) (chunks d kind qs)). absurd (no_collision d m kind (chunks d kind rs) (chunks d kind qs) hr hq c))
    (root_same d whole kind rs qs lr lq e)
