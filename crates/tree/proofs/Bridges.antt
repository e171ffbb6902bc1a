-- Entries and children of the code, and the rows and children over which a table's tree is defined.
use Rattle.std.proofs.Common.{◌≡◌, ℕ, suc, ◌+◌, ◌<◌, Bool, List, [], ◌∷◌, ◌++◌, map, length, sym, refl, ap, ◌∙◌, ap₂, one-add, arith}
use Rattle.std.specs.List.{flat_map}
use Rattle.std.proofs.lemmas.List.{length-map}
use Rattle.std.proofs.lemmas.List.Sums.{sum_by-cons}
use Rattle.digest.specs.declared.address.Address.{Address}
use Rattle.table.specs.Of.{cell_bytes}
use Rattle.table.specs.declared.entry.Entry.{Entry}
use Rattle.tree_laws.specs.Boundary.{nodes}
use Rattle.tree_laws.specs.Layout.{sized, link_bytes, row_bytes, child_bytes, node_bytes, leaf_bytes, inner_bytes}
use Rattle.tree_laws.specs.Tree.{last_of, sum_below, row_marked, child_marked, leaves, leaf_child, inner_child, next}
use Rattle.tree_laws.proofs.Maps.{nodes-map}
use Rattle.tree_laws.specs.Tables.{row_of}
use Rattle.node.specs.Items.{child_of, total_below, item_chunk, node_above, level_chunks, level_above}
use Rattle.node.specs.declared.child.Child.{Child as Typed}

module _ {X Y : Type 0} (f : X → Y) where
  joined_map : (bytes : Y → List ℕ) (xs : List X) → flat_map (λ x. bytes (f x)) xs ≡ flat_map bytes (map f xs)
  joined_map bytes [] = refl
  joined_map bytes (x ∷ xs) = ap (λ w. bytes (f x) ++ w) (joined_map bytes xs)

  pub node_map : (bytes : Y → List ℕ) (kind level : ℕ) (xs : List X) → node_bytes (λ x. bytes (f x)) kind level xs ≡ node_bytes bytes kind level (map f xs)
  node_map bytes kind level xs = ap₂ (λ n w. 1 ∷ kind ∷ level ∷ n ∷ w) (sym (length-map xs f)) (joined_map bytes xs)

  pub last_map : (key : Y → List ℕ) (xs : List X) → last_of (λ x. key (f x)) xs ≡ last_of key (map f xs)
  last_map key [] = refl
  last_map key (x ∷ []) = refl
  last_map key (x ∷ y ∷ ys) = last_map key (y ∷ ys)

  -- what each node gives, over the one and over the other
  module _ {Z : Type 0} (u : List X → Z) (v : List Y → Z) (same : (n : List X) → u n ≡ v (map f n)) where
    each : (ns : List (List X)) → map u ns ≡ map v (map (map f) ns)
    each [] = refl
    each (n ∷ ns) = ap₂ (λ y ys. y ∷ ys) (same n) (each ns)

    pub values_map : (mark : Y → Bool) (xs : List X) → map u (nodes (λ x. mark (f x)) xs) ≡ map v (nodes mark (map f xs))
    values_map mark xs = each (nodes (λ x. mark (f x)) xs) ∙ ap (map v) (sym (nodes-map f mark xs))

module _ {K : Type 0} (code : K → List ℕ) (d : List ℕ → Address) (kind : ℕ) where
  pub ones : (xs : List (Entry K)) → total_below (λ _. 1) xs ≡ length (map (row_of code) xs)
  ones [] = refl
  ones (x ∷ xs) = sum_by-cons (λ _. 1) x xs ∙ (one-add (total_below (λ _. 1) xs) ∙ ap suc (ones xs))

  belows : (xs : List (Typed K)) → total_below (λ c. c.below) xs ≡ sum_below (map (child_of code) xs)
  belows [] = refl
  belows (x ∷ xs) = sum_by-cons (λ c. c.below) x xs ∙ ap (λ n. x.below + n) (belows xs)

  abbrev pub cell_value : Entry K → List ℕ
  cell_value e = sized (cell_bytes e.cell)

  abbrev pub link_value : Typed K → List ℕ
  link_value c = link_bytes c.at c.below

  pub leaf_chunk : (xs : List (Entry K)) → item_chunk code (λ e. e.key) cell_value kind 0 xs ≡ leaf_bytes kind (map (row_of code) xs)
  leaf_chunk xs = node_map (row_of code) row_bytes kind 0 xs

  leaf_above : (xs : List (Entry K)) → node_above code (λ e. e.key) cell_value d (λ _. 1) kind 0 xs ≡ leaf_child d kind (map (row_of code) xs)
  leaf_above xs = λ i. record { key = last_map (row_of code) (λ r. r.key) xs i; at = d (leaf_chunk xs i); below = ones xs i }

  inner_chunk : (level : ℕ) (xs : List (Typed K)) → item_chunk code (λ c. c.key) link_value kind level xs ≡ inner_bytes kind level (map (child_of code) xs)
  inner_chunk level xs = node_map (child_of code) child_bytes kind level xs

  inner_above : (level : ℕ) (xs : List (Typed K)) → node_above code (λ c. c.key) link_value d (λ c. c.below) kind level xs ≡ inner_child d kind level (map (child_of code) xs)
  inner_above level xs = λ i. record { key = last_map (child_of code) (λ c. c.key) xs i; at = d (inner_chunk level xs i); below = belows xs i }

  -- the leaves of a table with entries
  pub leaf_chunks : (xs : List (Entry K)) → 0 < length xs → level_chunks code (λ e. e.key) cell_value kind 0 xs ≡ map (leaf_bytes kind) (leaves (map (row_of code) xs))
  leaf_chunks [] h = absurd (omega arith)
  leaf_chunks (e ∷ es) h = values_map (row_of code) _ _ leaf_chunk row_marked (e ∷ es)

  pub leaf_children : (xs : List (Entry K)) → 0 < length xs → level_above code (λ e. e.key) cell_value d (λ _. 1) kind 0 xs ≡ map (leaf_child d kind) (leaves (map (row_of code) xs))
  leaf_children [] h = absurd (omega arith)
  leaf_children (e ∷ es) h = values_map (row_of code) _ _ leaf_above row_marked (e ∷ es)

  -- a level of children
  pub inner_chunks : (level : ℕ) (xs : List (Typed K)) → level_chunks code (λ c. c.key) link_value kind level xs ≡ map (inner_bytes kind level) (nodes (child_marked level) (map (child_of code) xs))
  inner_chunks level xs = values_map (child_of code) _ _ (inner_chunk level) (child_marked level) xs

  pub inner_children : (level : ℕ) (xs : List (Typed K)) → level_above code (λ c. c.key) link_value d (λ c. c.below) kind level xs ≡ next d kind level (map (child_of code) xs)
  inner_children level xs = values_map (child_of code) _ _ (inner_above level) (child_marked level) xs
