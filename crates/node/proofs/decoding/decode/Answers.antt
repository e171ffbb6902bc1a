use Rattle.std.proofs.Common.{◌≡◌, ◌⊎◌, inl, inr, Some, None, Option, sym, refl, subst, rules, MatchOption, MatchResult}
use Rattle.std.specs.Option.{ok_or}
use Rattle.node.specs.Nodes.{SpellsNone, Views, NodeIn, NoNode, child_key, child_value, inner_level}
use Rattle.node.specs.declared.fault.TreeFault.TheVariants.{Malformed}
use Rattle.node.proofs.Reading.{weaker}
use Rattle.node.proofs.decoding.decode.Goals as goal

-- the first of two that there is, or else a fault
first_of : {N E A B : Type 0} (V W : N → Type 0) (C : Type 0) (bad : E) (o p : Option N) → MatchOption o A V → MatchOption o (MatchOption p B W) (λ x. p ≡ Some x) → (A → B → C) → MatchResult (ok_or p bad) (λ n. V n ⊎ W n) (λ e. (e ≡ bad) × C)
first_of V W C bad None None a b both = (refl, both a b)
first_of V W C bad None (Some n) a b both = inr b
first_of V W C bad (Some m) p a b both = subst (λ q. MatchResult (ok_or q bad) (λ n. V n ⊎ W n) (λ e. (e ≡ bad) × C)) (sym b) (inl a)

pub returns : goal.returns
returns g c =
    let code = g.K.Key.code in
    let before = g.K.Key.before in
    let kind = g.K.Key.kind in
    let s = c.args.chunk.now in
    let second = weaker c.decode_items.result c.or_else.ensures
    (λ e. let h : MatchOption c.or_else.result (SpellsNone code before (child_key {K = g.row.K.Denot}) child_value inner_level kind s) (λ n. Views code before (child_key {K = g.row.K.Denot}) child_value inner_level kind s n.level n.count n.body.now) = search rules in h)
    (λ x e. e) in
    subst (λ r. MatchResult r (λ n. NodeIn code before kind s n.level n.count n.body.now) (λ e. (e ≡ Malformed) × NoNode code before kind s)) (sym c.ok_or.ensures.value)
    (first_of _ _ (NoNode code before kind s) Malformed c.decode_items.result c.or_else.result c.decode_items.ensures second (λ a b. record { no_leaf = a; no_inner = b }))
