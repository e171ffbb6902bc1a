-- A table: entries in key order, at most 65,536.
use Rattle.std.specs.Prelude.{◌≡◌, ℕ, ◌≤◌, Bool, true, cond, not, ◌&&◌, List, [], ◌∷◌, length, Some, None, Option}
use Rattle.table.specs.declared.cell.Cell.{Cell}
use Rattle.table.specs.declared.entry.Entry.{Entry}

-- a table has at most so many entries
abbrev pub most_entries : ℕ
most_entries = 65536

-- each comes before the next
abbrev pub Rising : {X : Type 0} → (X → X → Bool) → List X → Type 0
Rising lt [] = Unit {0}
Rising lt (x ∷ []) = Unit {0}
Rising lt (x ∷ y ∷ ys) = (lt x y ≡ true) × Rising lt (y ∷ ys)

module _ {K : Type 0} (before : K → K → Bool) where
  -- neither key comes before the other: they are one key
  abbrev pub same_key : K → K → Bool
  same_key x y = not (before x y) && not (before y x)

  -- keys rise strictly
  abbrev pub Ordered : List (Entry K) → Type 0
  Ordered es = Rising (λ a b. before a.key b.key) es

  -- the cell at a key, or none
  abbrev pub cell_at : List (Entry K) → K → Option Cell
  cell_at [] k = None
  cell_at (e ∷ es) k = cond (same_key e.key k) (Some e.cell) (cell_at es k)

  -- entries that are a table
  pub record Table (es : List (Entry K)) : Type 0 where
    pub ordered : Ordered es
    pub few : length es ≤ most_entries

  -- tables are equal when every key has the same cell or lacks one in both
  abbrev pub EqualTables : List (Entry K) → List (Entry K) → Type 0
  EqualTables xs ys = (k : K) → cell_at xs k ≡ cell_at ys k

  -- equality key by key is equality of the entries in order
  pub record ByKey : Type 0 where
    pub alike : (xs ys : List (Entry K)) → Table xs → Table ys → EqualTables xs ys → xs ≡ ys
    pub back : (xs ys : List (Entry K)) → xs ≡ ys → EqualTables xs ys
