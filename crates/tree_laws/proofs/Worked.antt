-- The small tables, by computing.
use Rattle.std.proofs.Common.{◌≡◌, ℕ, List, [], ◌∷◌, refl}
use Rattle.digest.specs.declared.address.Address.{Address}
use Rattle.digest.specs.Fnv.{fnv}
use Rattle.tree_laws.specs.Tree.{chunks, one, more}
use Rattle.tree_laws.specs.Examples.{row, KeyExamples, TwoRows, ThreeRows, Examples}

keys_stand : KeyExamples
unfolding fnv
keys_stand = record { hash_none = refl; hash_01 = refl; hash_02 = refl; mark_none = refl; mark_01 = refl; mark_02 = refl }

two_stand : (d : List ℕ → Address) (kind : ℕ) (y z : List ℕ) → TwoRows d kind y z
unfolding fnv
two_stand d kind y z = record { leaf = refl; rises = one; chunk = refl; root_is = refl }

three_stand : (d : List ℕ → Address) (kind : ℕ) (x y z : List ℕ) → ThreeRows d kind x y z
unfolding fnv
three_stand d kind x y z = record { two_leaves = refl; rises = more one; three_chunks = refl; root_is = refl }

one_stands : (d : List ℕ → Address) → chunks d 2 (row 2 (7 ∷ []) ∷ []) ≡ (1 ∷ 2 ∷ 0 ∷ 1 ∷ 1 ∷ 2 ∷ 1 ∷ 7 ∷ []) ∷ []
unfolding fnv
one_stands d = refl

pub examples : Examples
examples = record { keys = keys_stand; two_rows = two_stand; three_rows = three_stand; one_row = one_stands; no_rows = λ d. refl }
