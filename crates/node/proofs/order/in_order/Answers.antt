use Rattle.std.proofs.Common.{rules}
use Rattle.std.proofs.lemmas.List.Sorted.{answers_always}
use Rattle.node.proofs.Rises.{is_rising}
use Rattle.node.proofs.order.in_order.Goals as goal

pub returns : goal.returns
returns g c =
    is_rising (λ x y. g.K.Key.before (g.I.Item.named x) (g.I.Item.named y)) c.args.items.now c.is_sorted_by.result
    (c.is_sorted_by.ensures.cases (λ x y. g.K.Key.before (g.I.Item.named x) (g.I.Item.named y)) (answers_always _ _ _ (λ f a r f' h. search rules)))
