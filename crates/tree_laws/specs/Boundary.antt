-- Where the nodes of one level end: the rule as a function that cuts, and as a relation that a reader checks.
use Rattle.std.specs.Prelude.{◌≡◌, ℕ, ◌+◌, Bool, true, false, cond, ◌&&◌, ◌||◌, List, [], ◌∷◌, ◌++◌, ◌==◌, nat_le, nat_lt}
use Rattle.digest.specs.Fnv.{fnv32}

-- an encoded key is marked at a level: FNV-1a-32 over the level byte and then the key is below 10000000
abbrev pub marked : ℕ → List ℕ → Bool
marked level key = nat_lt (fnv32 (level ∷ key)) 0x10000000

-- no entry is left
abbrev pub none_left : {X : Type 0} → List X → Bool
none_left [] = true
none_left (x ∷ xs) = false

-- a node that holds n entries closes after the last of them although others follow: it is marked and there are at least 2, or there are 32
abbrev pub full : ℕ → Bool → Bool
full n m = (nat_le 2 n && m) || n == 32

-- a node closes after an entry: it is full, or no entry is left
abbrev pub closes : ℕ → Bool → Bool → Bool
closes n m last = full n m || last

-- one more entry at the front of the first node
abbrev pub glue : {X : Type 0} → X → List (List X) → List (List X)
glue x [] = (x ∷ []) ∷ []
glue x (n ∷ ns) = (x ∷ n) ∷ ns

-- the nodes of one level, where the open node already has k entries
abbrev pub nodes_from : {X : Type 0} → (X → Bool) → ℕ → List X → List (List X)
nodes_from mark k [] = []
nodes_from mark k (x ∷ xs) =
    let here = (x ∷ []) ∷ nodes_from mark 0 xs in
    let on = glue x (nodes_from mark (k + 1) xs) in
    cond (closes (k + 1) (mark x) (none_left xs)) here on

-- the nodes of one level, from the left
abbrev pub nodes : {X : Type 0} → (X → Bool) → List X → List (List X)
nodes mark xs = nodes_from mark 0 xs

-- how many entries the open node has after xs, if others follow: 0 is a boundary
abbrev pub held_from : {X : Type 0} → (X → Bool) → ℕ → List X → ℕ
held_from mark k [] = k
held_from mark k (x ∷ xs) =
    let here = held_from mark 0 xs in
    let on = held_from mark (k + 1) xs in
    cond (full (k + 1) (mark x)) here on

-- the entries of nodes, one behind the other
abbrev pub concat : {X : Type 0} → List (List X) → List X
concat [] = []
concat (n ∷ ns) = n ++ concat ns

-- the rule for one node, where k entries are in it already: it closes after its last entry, and after none before that
abbrev pub Obeys : {X : Type 0} → (X → Bool) → ℕ → List X → Bool → Type 0
Obeys mark k [] last = ⊥
Obeys mark k (x ∷ []) last = closes (k + 1) (mark x) last ≡ true
Obeys mark k (x ∷ y ∷ ys) last = (full (k + 1) (mark x) ≡ false) × Obeys mark (k + 1) (y ∷ ys) last

-- the rule for the nodes of a level: each closes where it should and nowhere before
abbrev pub AllObey : {X : Type 0} → (X → Bool) → ℕ → List (List X) → Type 0
AllObey mark k [] = Unit {0}
AllObey mark k (n ∷ ns) = Obeys mark k n (none_left ns) × AllObey mark 0 ns
