-- What holds of cuts, levels and roots, for any entries, marks and digests.
use Rattle.std.specs.Prelude.{◌≡◌, ℕ, ◌≤◌, Bool, ◌⊎◌, List, [], ◌∷◌, ◌++◌, map, length}
use Rattle.std.specs.List.{AllByRecursion}
use Rattle.digest.specs.declared.address.Address.{Address}
use Rattle.digest.specs.Bytes.{Whole}
use Rattle.store.specs.Meaning.{Meaning}
use Rattle.store.specs.Laws.{AllHeld}
use Rattle.tree_laws.specs.Boundary.{nodes_from, nodes, held_from, concat, AllObey}
use Rattle.tree_laws.specs.Layout.{Row, Child}
use Rattle.tree_laws.specs.Tree.{leaves, leaf_child, up, root, chunks, Collision, Rises}

-- each address in these entries has 32 bytes
abbrev pub AllWhole : List Child → Type 0
AllWhole cs = AllByRecursion (λ c. Whole c.at) cs

-- a table has at most so many rows
abbrev pub most_rows : ℕ
most_rows = 65536

-- a node has 1 to 32 entries
abbrev pub OneTo32 : {X : Type 0} → List X → Type 0
OneTo32 n = (1 ≤ length n) × (length n ≤ 32)

-- every node but the last has at least 2 entries
abbrev pub TwoButLast : {X : Type 0} → List (List X) → Type 0
TwoButLast [] = Unit {0}
TwoButLast (n ∷ []) = Unit {0}
TwoButLast (n ∷ m ∷ ms) = (2 ≤ length n) × TwoButLast (m ∷ ms)

pub record CutLaws (X : Type 0) : Type 0 where
  -- the nodes, one behind the other, are the entries
  pub entries_back : (mark : X → Bool) (xs : List X) → concat (nodes mark xs) ≡ xs
  -- the nodes obey the rule, and nodes that obey it are those of their entries
  pub obeyed : (mark : X → Bool) (xs : List X) → AllObey mark 0 (nodes mark xs)
  pub fixed : (mark : X → Bool) (ns : List (List X)) → AllObey mark 0 ns → nodes mark (concat ns) ≡ ns
  -- where the open node has no entry, cutting starts again
  pub restarts : (mark : X → Bool) (k : ℕ) (xs ys : List X) → held_from mark k xs ≡ 0 → nodes_from mark k (xs ++ ys) ≡ nodes_from mark k xs ++ nodes mark ys
  -- the old nodes are fs, o ∷ os and bs, and the entries of o ∷ os become new: if new ends at a boundary or nothing is behind it, then fs and bs stay
  pub meets : (mark : X → Bool) (xs new : List X) (fs : List (List X)) (o : List X) (os bs : List (List X)) → nodes mark xs ≡ fs ++ ((o ∷ os) ++ bs) → (held_from mark 0 new ≡ 0) ⊎ (bs ≡ []) → nodes mark (concat fs ++ (new ++ concat bs)) ≡ fs ++ (nodes mark new ++ bs)
  -- sizes
  pub within : (mark : X → Bool) (xs : List X) → AllByRecursion OneTo32 (nodes mark xs)
  pub two_but_last : (mark : X → Bool) (xs : List X) → TwoButLast (nodes mark xs)

pub record FewLevels : Type 0 where
  -- the rule leads to a root of level 15 at most, and it is the one that is computed
  pub few : (d : List ℕ → Address) (kind : ℕ) (rs : List Row) → length rs ≤ most_rows → (t : ℕ) × Rises d kind 1 (map (leaf_child d kind) (leaves rs)) t (up d kind 15 1 (map (leaf_child d kind) (leaves rs))) × (t ≤ 15)
  -- and to no other
  pub only : (d : List ℕ → Address) (kind l t u : ℕ) (cs : List Child) (r s : Child) → Rises d kind l cs t r → Rises d kind l cs u s → (t ≡ u) × (r ≡ s)

-- equal roots: equal rows, or a chunk of each tree that differ and have one address
abbrev pub RootsTell : (List ℕ → Address) → Type 0
RootsTell d = (kind : ℕ) (rs qs : List Row) → length rs ≤ most_rows → length qs ≤ most_rows → root d kind rs ≡ root d kind qs → (rs ≡ qs) ⊎ Collision d kind (chunks d kind rs) (chunks d kind qs)

-- equal roots of two trees that one store holds: equal rows
abbrev pub OneTable : (List ℕ → Address) → Type 0
OneTable d = (m : Meaning) (kind : ℕ) (rs qs : List Row) → length rs ≤ most_rows → length qs ≤ most_rows → AllHeld d m (chunks d kind rs) → AllHeld d m (chunks d kind qs) → root d kind rs ≡ root d kind qs → rs ≡ qs
