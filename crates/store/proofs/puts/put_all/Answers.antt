use Rattle.std.proofs.Common.{◌≡◌, ◌<◌, [], map, length, vec_items, sym, ap, ◌∙◌, subst, arith}
use Rattle.std.proofs.lemmas.List.{get_or-map, length-map}
use Rattle.store.specs.Meaning.{OrMemory, put_answer, after_put}
use Rattle.store.proofs.Mapped.{ok_was}
use Rattle.store.proofs.Turns.{put_more}
use Rattle.store.proofs.puts.put_all.Goals as goal

pub loop-accepted-preserved : goal.loop-accepted-preserved
loop-accepted-preserved g c =
    let d = g.D.Digest.digests in
    let m = g.S.ChunkStore.meaning in
    let xs = c.args.chunks.now in
    let cs = map vec_items xs in
    let i = c.loop-accepted.accepted-counter in
    let below : i < length cs = rw length-map c.loop-accepted-test.true in
    let is = c.as_slice.ensures.value ∙ ap vec_items c.index-chunks-accepted.is ∙ sym (get_or-map vec_items xs i c.index-chunks-accepted.result [] c.loop-accepted-test.true) in
    let held = c.loop-accepted.invariant.1 in
    let put = c.put.ensures in
    let ok = ok_was c.put.result c.map_err.result c.in_ok-put.put _ c.in_ok-put.was c.map_err.ensures.cases in
    let there = m c.loop-accepted.store in
    let bytes = c.as_slice.result.now in
    let count = c.count.ensures in (
      omega (arith, count.bound, c.loop-accepted.invariant.0),
      λ s. (
        put.kept (held s).0,
        put_more d (m c.args.store.now) (m c.loop-accepted.store) (m c.put.new.self) cs i c.loop-accepted.taken c.as_slice.result.now below is (held s).1 c.in_ok-put.put c.count.result (subst (λ r. OrMemory (put_answer d there bytes) r) ok (put.answer (held s).0)) (subst (λ r. m c.put.new.self ≡ after_put d there bytes r) ok (put.after (held s).0)) count.value,
      ),
    )
