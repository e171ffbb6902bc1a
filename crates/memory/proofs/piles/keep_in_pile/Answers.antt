use Rattle.std.proofs.Common.{◌≡◌, Err, refl, subst, inl}
use Rattle.std.proofs.lemmas.Result.{err_from_is_err_and}
use Rattle.store.specs.Meaning.{checked, fallen, put_answer, OrMemory}
use Rattle.memory.specs.Of.{table_means}
use Rattle.memory.specs.Table.{empty, units}
use Rattle.memory.proofs.Fresh.{keeps}
use Rattle.memory.proofs.piles.keep_in_pile.Goals as goal

pub returns-in_err-put : goal.returns-in_err-put
returns-in_err-put g c =
    let d = g.D.Digest.digests in
    let start : checked d (fallen (checked d (table_means c.fresh_pile-pile.result.inner.front.inner)) (table_means c.fresh_pile-pile.result.inner.back)) ≡ empty (units c.args.bytes) =
    λ i. checked d (fallen (checked d (c.fresh_pile-pile.ensures.front i)) (c.fresh_pile-pile.ensures.back i)) in
    let p = err_from_is_err_and c.from_residual.result c.from_residual.ensures.1 in
    rw (p.1, p.2) (refl, inl (subst (λ m. OrMemory (put_answer d m c.args.chunk.now) (Err c.in_err-put.field-0.0)) start (c.in_err-put.ensures.answer (tt, tt))))

pub returns : goal.returns
returns g c =
    let d = g.D.Digest.digests in
    let start : checked d (fallen (checked d (table_means c.fresh_pile-pile.result.inner.front.inner)) (table_means c.fresh_pile-pile.result.inner.back)) ≡ empty (units c.args.bytes) =
    λ i. checked d (fallen (checked d (c.fresh_pile-pile.ensures.front i)) (c.fresh_pile-pile.ensures.back i)) in
    let put = c.in_ok-put.ensures in
    let get = c.get.ensures in
    keeps d (units c.args.bytes) c.args.chunk.now c.args.buffer.now _ _ c.digest.result c.in_ok-put.field-0 c.get.result c.get.new.buffer start c.digest.ensures (put.answer (tt, tt)) (put.after (tt, tt)) (get.answer (tt, tt)) (get.written (tt, tt))
