-- Well-formed nodes, their chunks, and what reading a chunk tells.
use Rattle.std.specs.Prelude.{◌≡◌, ℕ, ◌≤◌, Bool, true, ◌&&◌, ◌⊎◌, List, [], ◌∷◌, length, Some, None, Option, ◌==◌, nat_le}
use Rattle.std.specs.List.{flat_map}
use Rattle.table.specs.Of.{cell_bytes}
use Rattle.table.specs.Table.{Rising}
use Rattle.table.specs.declared.entry.Entry.{Entry}
use Rattle.tree_laws.specs.Layout.{link_bytes, sized}
use Rattle.node.specs.Items.{item_bytes, item_chunk}
use Rattle.node.specs.declared.child.Child.{Child}

-- entries that are a node of a level: the level holds such entries, they are at most 32, and their keys rise
pub record WellFormed {K I : Type 0} (holds : ℕ → Bool) (before : K → K → Bool) (named : I → K) (level : ℕ) (xs : List I) : Type 0 where
  pub placed : holds level ≡ true
  pub few : length xs ≤ 32
  pub rising : Rising (λ x y. before (named x) (named y)) xs

module _ {K I : Type 0} (code : K → List ℕ) (before : K → K → Bool) (named : I → K) (value : I → List ℕ) where
  -- so many entries in key order, and nothing else, are in these bytes
  pub record Listed (count : ℕ) (body : List ℕ) (xs : List I) : Type 0 where
    pub many : length xs ≡ count
    pub rising : Rising (λ x y. before (named x) (named y)) xs
    pub text : body ≡ flat_map (item_bytes code named value) xs

  module _ (holds : ℕ → Bool) (kind : ℕ) where
    -- these bytes are the chunk of these well-formed entries of that level
    pub record Spells (s : List ℕ) (level : ℕ) (xs : List I) : Type 0 where
      pub formed : WellFormed holds before named level xs
      pub chunk : s ≡ item_chunk code named value kind level xs

    -- these bytes are the chunk of no well-formed node of such entries
    abbrev pub SpellsNone : List ℕ → Type 0
    SpellsNone s = (level : ℕ) (xs : List I) → Spells s level xs → ⊥

    -- nodes with one chunk have one level and the same entries
    abbrev pub ItemsTell : Type 0
    ItemsTell = (s : List ℕ) (l m : ℕ) (xs ys : List I) → Spells s l xs → Spells s m ys → (l ≡ m) × (xs ≡ ys)

    -- these bytes are the chunk of a well-formed node of that level, and its so many entries are in the body
    pub record Views (s : List ℕ) (level count : ℕ) (body : List ℕ) : Type 0 where
      pub items : List I
      pub spells : Spells s level items
      pub many : count ≡ length items
      pub text : body ≡ flat_map (item_bytes code named value) items

-- a leaf, of level 0: the bytes behind an entry's key are its cell behind its length
abbrev pub entry_key : {K : Type 0} → Entry K → K
entry_key e = e.key

abbrev pub entry_value : {K : Type 0} → Entry K → List ℕ
entry_value e = sized (cell_bytes e.cell)

abbrev pub leaf_level : ℕ → Bool
leaf_level l = l == 0

-- a higher node, of level 1 to 15: the bytes behind a child's key are its address and the number of entries below
abbrev pub child_key : {K : Type 0} → Child K → K
child_key c = c.key

abbrev pub child_value : {K : Type 0} → Child K → List ℕ
child_value c = link_bytes c.at c.below

abbrev pub inner_level : ℕ → Bool
inner_level l = nat_le 1 l && nat_le l 15

module _ {K : Type 0} (code : K → List ℕ) (before : K → K → Bool) (kind : ℕ) where
  -- these bytes are the chunk of the well-formed leaf with these entries: `Spells` at what `Item` is of `Entry`
  abbrev pub LeafChunk : List ℕ → ℕ → List (Entry K) → Type 0
  LeafChunk s level xs = Spells code before entry_key entry_value leaf_level kind s level xs

  -- these bytes are the chunk of the well-formed higher node with these children: `Spells` at what `Item` is of `Child`
  abbrev pub InnerChunk : List ℕ → ℕ → List (Child K) → Type 0
  InnerChunk s level xs = Spells code before child_key child_value inner_level kind s level xs

  -- these bytes are the chunk of a well-formed leaf, or else of a well-formed higher node, with so many entries, which are in the body
  abbrev pub NodeIn : List ℕ → ℕ → ℕ → List ℕ → Type 0
  NodeIn s level count body =
      Views code before (entry_key {K = K}) entry_value leaf_level kind s level count body ⊎ Views code before (child_key {K = K}) child_value inner_level kind s level count body

  -- these bytes are the chunk of no well-formed node of either sort
  pub record NoNode (s : List ℕ) : Type 0 where
    pub no_leaf : (level : ℕ) (xs : List (Entry K)) → LeafChunk s level xs → ⊥
    pub no_inner : (level : ℕ) (xs : List (Child K)) → InnerChunk s level xs → ⊥

  pub record ChunksTell : Type 0 where
    -- leaves with one chunk have the same entries
    pub leaves : (s : List ℕ) (l m : ℕ) (xs ys : List (Entry K)) → LeafChunk s l xs → LeafChunk s m ys → xs ≡ ys
    -- higher nodes with one chunk have one level and the same children
    pub inners : (s : List ℕ) (l m : ℕ) (xs ys : List (Child K)) → InnerChunk s l xs → InnerChunk s m ys → (l ≡ m) × (xs ≡ ys)
    -- no leaf has the chunk of a higher node
    pub apart : (s : List ℕ) (l m : ℕ) (xs : List (Entry K)) (ys : List (Child K)) → LeafChunk s l xs → InnerChunk s m ys → ⊥

module _ {I : Type 0} (bytes : I → List ℕ) where
  -- so many entries are in these bytes: one step gives the first, and leaves the others; past the last it gives none and leaves all as it was
  abbrev pub StepsOver : List I → Option I → List ℕ → ℕ → Type 0
  StepsOver [] r rest left = (r ≡ None) × (rest ≡ []) × (left ≡ 0)
  StepsOver (x ∷ xs) r rest left = (r ≡ Some x) × (rest ≡ flat_map bytes xs) × (left ≡ length xs)

  -- a step from one place to the next, whatever entries there are
  abbrev pub Steps : List ℕ → ℕ → Option I → List ℕ → ℕ → Type 0
  Steps rest left r rest' left' = (xs : List I) → rest ≡ flat_map bytes xs → left ≡ length xs → StepsOver xs r rest' left'
