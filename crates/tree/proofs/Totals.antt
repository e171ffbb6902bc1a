-- The last key of a node.
use Rattle.std.proofs.Common.{◌≡◌, ℕ, suc, ◌-◌, ◌<◌, List, [], ◌∷◌, length, get_or, sym, ap, ◌∙◌, arith}
use Rattle.tree_laws.specs.Tree.{last_of}

-- the last key is that of the last entry
pub last_at : {X : Type 0} (f : X → List ℕ) (xs : List X) (x : X) → 0 < length xs → x ≡ get_or xs (length xs - 1) x → f x ≡ last_of f xs
last_at f [] x h e = absurd (omega arith)
last_at f (y ∷ []) x h e = ap f e
last_at f (y ∷ z ∷ zs) x h e =
    let k : suc (suc (length zs)) - 1 ≡ suc (length zs) = omega arith in
    let k' : suc (length zs) - 1 ≡ length zs = omega arith in
    last_at f (z ∷ zs) x (omega arith) (e ∙ (ap (λ n. get_or (y ∷ z ∷ zs) n x) k ∙ sym (ap (λ n. get_or (z ∷ zs) n x) k')))
