-- How many entries nodes have: 1 to 32, and all but the last at least 2.
use Rattle.std.proofs.Common.{◌≡◌, ℕ, ◌+◌, ◌<◌, ◌≤◌, Bool, false, eqb, List, [], ◌∷◌, length, arith}
use Rattle.std.specs.List.{AllByRecursion}
use Rattle.std.proofs.lemmas.Bool.{or_parts, eqb-false}
use Rattle.tree_laws.specs.Boundary.{full, nodes_from, nodes, Obeys, AllObey}
use Rattle.tree_laws.specs.Laws.{OneTo32, TwoButLast}
use Rattle.tree_laws.proofs.Local.{full_two}
use Rattle.tree_laws.proofs.Rule.{or_no, rule_holds}

-- a node that stays open has not 32 entries
pub open_few : (n : ℕ) (m : Bool) → full n m ≡ false → n ≡ 32 → ⊥
open_few n m e = eqb-false n 32 (or_parts _ (eqb n 32) e).1

module _ {X : Type 0} (mark : X → Bool) where
  node_within : (k : ℕ) (n : List X) (last : Bool) → k < 32 → Obeys mark k n last → (1 ≤ length n) × (k + length n ≤ 32)
  node_within k [] last lt h = absurd h
  node_within k (x ∷ []) last lt h = (omega arith, omega arith)
  node_within k (x ∷ y ∷ ys) last lt h =
      let w = open_few (k + 1) (mark x) h.0 in
      let s : k + 1 < 32 = omega (arith, w) in
      let r = node_within (k + 1) (y ∷ ys) last s h.1 in
      (omega arith, omega (arith, r.1))

  within_by_rule : (k : ℕ) (ns : List (List X)) → k < 32 → AllObey mark k ns → AllByRecursion OneTo32 ns
  within_by_rule k [] lt h = tt
  within_by_rule k (n ∷ ns) lt h =
      let r = node_within k n _ lt h.0 in
      ((r.0, omega (arith, r.1)), within_by_rule 0 ns (omega arith) h.1)

  pub nodes_within_from : (k : ℕ) (xs : List X) → k < 32 → AllByRecursion OneTo32 (nodes_from mark k xs)
  nodes_within_from k xs lt = within_by_rule k (nodes_from mark k xs) lt (rule_holds mark k xs)

  -- every node has 1 to 32 entries
  pub nodes_within : (xs : List X) → AllByRecursion OneTo32 (nodes mark xs)
  nodes_within xs = nodes_within_from 0 xs (omega arith)

  node_two : (k : ℕ) (n : List X) → Obeys mark k n false → 2 ≤ k + length n
  node_two k [] h = absurd h
  node_two k (x ∷ []) h = omega (arith, full_two k (mark x) (or_no (full (k + 1) (mark x)) h))
  node_two k (x ∷ y ∷ ys) h = omega arith

  two_by_rule : (ns : List (List X)) → AllObey mark 0 ns → TwoButLast ns
  two_by_rule [] h = tt
  two_by_rule (n ∷ []) h = tt
  two_by_rule (n ∷ m ∷ ms) h = (omega (arith, node_two 0 n h.0), two_by_rule (m ∷ ms) h.1)

  -- and every node but the last has at least 2
  pub nodes_two : (xs : List X) → TwoButLast (nodes mark xs)
  nodes_two xs = two_by_rule (nodes mark xs) (rule_holds mark 0 xs)
