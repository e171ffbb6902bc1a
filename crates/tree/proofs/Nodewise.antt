-- A loop over the nodes of a level: one node more.
use Rattle.std.proofs.Common.{◌≡◌, ℕ, ◌+◌, ◌<◌, ◌≤◌, Bool, List, [], ◌∷◌, ◌++◌, map, length, get_or, take, drop, sym, ap, ◌∙◌, ap₂, arith, take_all}
use Rattle.std.proofs.lemmas.List.{drop_more, take_more, length-drop, get_or-map, map_push, length-map}
use Rattle.digest.specs.declared.address.Address.{Address}
use Rattle.tree_laws.specs.Boundary.{nodes}
use Rattle.tree_laws.specs.Layout.{Child}

-- what stands at a place of a list, by what is left from there on
pub drop_parts : {A : Type 0} (ns : List A) (i : ℕ) (d y : A) (ys : List A) → drop i ns ≡ y ∷ ys → (i < length ns) × (get_or ns i d ≡ y) × (drop (i + 1) ns ≡ ys)
drop_parts ns i d y ys e =
    let lt : i < length ns = omega (arith, ap length e, length-drop i ns) in
    let m = drop_more ns i d lt in
    let p : get_or ns i d ≡ y = cc in
    let q : drop (i + 1) ns ≡ ys = cc in
    (lt, p, q)

-- of a level's nodes i are done: the next is `node`, and `after` is left behind it
module _ {X : Type 0} (mark : X → Bool) (items rest node after : List X) (i : ℕ)
    (held : nodes mark rest ≡ drop i (nodes mark items)) (cut : nodes mark rest ≡ node ∷ nodes mark after) where
  pieces : (i < length (nodes mark items)) × (get_or (nodes mark items) i [] ≡ node) × (drop (i + 1) (nodes mark items) ≡ nodes mark after)
  pieces = drop_parts (nodes mark items) i [] node (nodes mark after) (sym held ∙ cut)

  pub node_below : i < length (nodes mark items)
  node_below = pieces.0

  pub node_next : nodes mark after ≡ drop (i + 1) (nodes mark items)
  node_next = sym pieces.2

  -- it is a function's value at that place, too
  pub at_place : {Y : Type 0} (f : List X → Y) (d : Y) → f node ≡ get_or (map f (nodes mark items)) i d
  at_place f d = ap f (sym pieces.1) ∙ sym (get_or-map f (nodes mark items) i [] d node_below)

  pub place_below : {Y : Type 0} (f : List X → Y) → i < length (map f (nodes mark items))
  place_below f = rw length-map node_below

  -- one more value behind those before
  pub values_more : {Y Z : Type 0} (f : List X → Y) (view : Z → Y) (was now : List Z) (z : Z) (k : ℕ) → now ≡ was ++ z ∷ [] → k ≡ i + 1 → view z ≡ f node
      → map view was ≡ take i (map f (nodes mark items)) → map view now ≡ take k (map f (nodes mark items))
  values_more f view was now z k e q v h =
      ap (map view) e ∙ (map_push view was z ∙ (ap₂ (λ u w. u ++ w ∷ []) h (v ∙ at_place f (f node)) ∙
      (sym (take_more (map f (nodes mark items)) i (f node) (place_below f)) ∙ ap (λ w. take w (map f (nodes mark items))) (sym q))))

-- a child by its three parts
pub child_parts : (c : Child) (key : List ℕ) (at : Address) (below : ℕ) → c.key ≡ key → c.at ≡ at → c.below ≡ below → c ≡ record { key = key; at = at; below = below }
child_parts c key at below p q r = λ i. record { key = p i; at = q i; below = r i }

-- past the last node the values are all of them
pub all_values : {X Y : Type 0} (f : X → Y) (ns : List X) (i : ℕ) → length ns ≤ i → take i (map f ns) ≡ map f ns
all_values f ns i h = take_all i (map f ns) (rw length-map h)
