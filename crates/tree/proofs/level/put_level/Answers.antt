use Rattle.std.proofs.Common.{rules, ◌≡◌, ℕ, ◌+◌, ◌<◌, ◌≤◌, Bool, true, List, [], ◌∷◌, ◌==◌, length, take, drop, vec_items, vec_len, Err, sym, ap, ◌∙◌, ap₂, subst, arith}
use Rattle.std.proofs.lemmas.Result.{err_from_is_err_and}
use Rattle.std.proofs.lemmas.List.{nil_from_length, length-drop}
use Rattle.std.proofs.lemmas.List.Sums.{sum_by-append, sum_by_push}
use Rattle.std.proofs.lemmas.Bool.{eqb-true}
use Rattle.store.specs.Meaning.{OrMemory, put_answer, after_put}
use Rattle.store.specs.Puts.{AllPut, PutsInTurn}
use Rattle.store.proofs.Lawful.{lawful}
use Rattle.store.proofs.Mapped.{ok_was, err_was}
use Rattle.store.proofs.Turns.{put_more, put_stopped}
use Rattle.tree_laws.specs.Boundary.{nodes}
use Rattle.node.specs.Items.{item_marked, item_chunk, node_above, level_chunks, child_of, total_below}
use Rattle.tree.proofs.Nodewise.{node_below, node_next, at_place, place_below, values_more, child_parts, all_values}
use Rattle.tree.proofs.level.put_level.Goals as goal

-- where nothing is left, all nodes are done
done : {X : Type 0} (mark : X → Bool) (items rest : List X) (i : ℕ) → true ≡ (length rest == 0) → nodes mark rest ≡ drop i (nodes mark items) → length (nodes mark items) ≤ i
done mark items rest i e held =
    let none = nil_from_length rest (eqb-true (length rest) 0 (sym e)) in
    omega (arith, ap length (sym held ∙ ap (nodes mark) none), length-drop i (nodes mark items))

pub returns-in_err-put-clause-does : goal.returns-in_err-put-clause-does
returns-in_err-put-clause-does g c s =
    let code = g.K.Key.code in
    let named = g.I.Item.named in
    let value = g.I.Item.value in
    let kind = g.K.Key.kind in
    let d = g.D.Digest.digests in
    let m = g.S.ChunkStore.meaning in
    let level = c.args.level in
    let mark = item_marked code named level in
    let items = c.args.items.now in
    let rest = c.loop-rest.rest.now in
    let node = c.split_at.result.0.now in
    let after = c.split_at.result.1.now in
    let i = vec_len c.loop-rest.out in
    let some : 0 < length rest = grind arith in
    let cut : nodes mark rest ≡ node ∷ nodes mark after = c.first.ensures.cut some ∙ ap₂ (λ u v. u ∷ nodes mark v) (sym c.split_at.ensures.front) (sym c.split_at.ensures.back) in
    let held = c.loop-rest.invariant.held in
    let chunk = item_chunk code named value kind level in
    let cs = level_chunks code named value kind level items in
    let was = c.loop-rest.invariant.run s in
    let err = err_was c.put_node.result c.map_err.result c.in_err-put.field-0.0 _ c.in_err-put.was c.map_err.ensures.cases in
    let stop : c.in_err-put.field-0.0 ≡ record { accepted = i; taken = c.loop-rest.taken; fault = err.0 } = search (rules, err.2) in
    let end = err_from_is_err_and c.from_residual.result c.from_residual.ensures.1 in
    let answer = subst (λ r. OrMemory (put_answer d (m c.loop-rest.store) (chunk node)) r) err.1 (c.put_node.ensures.answer was.0) in
    let then = subst (λ r. m c.put_node.new.store ≡ after_put d (m c.loop-rest.store) (chunk node) r) err.1 (c.put_node.ensures.after was.0) in
    subst (λ r. PutsInTurn d (m c.args.store.now) cs r (m c.put_node.new.store)) (sym (end.1 ∙ ap Err (end.2 ∙ stop)))
    (put_stopped d (m c.args.store.now) (m c.loop-rest.store) (m c.put_node.new.store) cs i c.loop-rest.taken (chunk node)
    (place_below mark items rest node after i held cut chunk) (at_place mark items rest node after i held cut chunk []) was.2 err.0 answer then)

pub loop-rest-preserved : goal.loop-rest-preserved
loop-rest-preserved g c =
    let code = g.K.Key.code in
    let named = g.I.Item.named in
    let value = g.I.Item.value in
    let below = g.I.Item.below in
    let kind = g.K.Key.kind in
    let d = g.D.Digest.digests in
    let m = g.S.ChunkStore.meaning in
    let level = c.args.level in
    let mark = item_marked code named level in
    let items = c.args.items.now in
    let rest = c.loop-rest.rest.now in
    let node = c.split_at.result.0.now in
    let after = c.split_at.result.1.now in
    let out = c.loop-rest.out in
    let out' = c.push_reserved.new.self in
    let i = vec_len out in
    let long = c.push_reserved.ensures.len in
    let child = c.above.result in
    let some : 0 < length rest = grind arith in
    let cut : nodes mark rest ≡ node ∷ nodes mark after = c.first.ensures.cut some ∙ ap₂ (λ u v. u ∷ nodes mark v) (sym c.split_at.ensures.front) (sym c.split_at.ensures.back) in
    let held = c.loop-rest.invariant.held in
    let chunk = item_chunk code named value kind level in
    let cs = level_chunks code named value kind level items in
    let put = c.in_ok-put.put in
    let ok = ok_was c.put_node.result c.map_err.result put _ c.in_ok-put.was c.map_err.ensures.cases in
    let count = c.count.ensures in
    let counted = c.above.ensures.count in
    let part = ap (total_below below) c.split_at.ensures.by_index.0 ∙ sum_by-append below node after in
    let grown : total_below (λ e. e.below) (vec_items out') ≡ total_below (λ e. e.below) (vec_items out) + child.below =
    ap (total_below (λ e. e.below)) c.push_reserved.ensures.items ∙ sum_by_push (λ e. e.below) (vec_items out) child
    in
    record {
      room = λ more. let two = c.first.ensures.two (omega (arith, c.split_at.ensures.back_len, more)) in omega (arith, two, c.loop-rest.invariant.room some, c.split_at.ensures.back_len, long);
      held = node_next mark items rest node after i held cut ∙ ap (λ k. drop k (nodes mark items)) (sym long);
      taken = omega (arith, count.bound, c.loop-rest.invariant.taken, long);
      total = omega (arith, grown, counted, part, c.loop-rest.invariant.total);
      capacity = c.push_reserved.ensures.capacity ∙ c.loop-rest.invariant.capacity;
      run = λ s.
          let was = c.loop-rest.invariant.run s in
          let answer = subst (λ r. OrMemory (put_answer d (m c.loop-rest.store) (chunk node)) r) ok (c.put_node.ensures.answer was.0) in
          let then = subst (λ r. m c.put_node.new.store ≡ after_put d (m c.loop-rest.store) (chunk node) r) ok (c.put_node.ensures.after was.0) in
          let placed = c.above.ensures.place ∙ (c.address.ensures ∙ (lawful d).addressed (m c.loop-rest.store) (chunk node) put answer) in
          let is = child_parts (child_of code child) _ _ _ c.above.ensures.key placed counted in (
            c.put_node.ensures.kept was.0,
            values_more mark items rest node after i held cut (node_above code named value d below kind level) (child_of code) (vec_items out) (vec_items out') child (vec_len out') c.push_reserved.ensures.items long is was.1,
            subst (λ k. AllPut d (m c.args.store.now) (take k cs) (c.loop-rest.taken + c.count.result) (m c.put_node.new.store)) (sym long)
                (put_more d (m c.args.store.now) (m c.loop-rest.store) (m c.put_node.new.store) cs i c.loop-rest.taken (chunk node)
                (place_below mark items rest node after i held cut chunk) (at_place mark items rest node after i held cut chunk []) was.2
                put c.count.result answer then count.value),
          );
      short = omega (arith, long, node_below mark items rest node after i held cut);
    }

pub returns-clause-does : goal.returns-clause-does
returns-clause-does g c s =
    let over = done _ c.args.items.now c.loop-rest.rest.now (vec_len c.loop-rest.out) c.loop-rest-test.ensures c.loop-rest.invariant.held in
    subst (λ cs. AllPut g.D.Digest.digests (g.S.ChunkStore.meaning c.args.store.now) cs c.loop-rest.taken (g.S.ChunkStore.meaning c.loop-rest.store))
    (all_values (item_chunk g.K.Key.code g.I.Item.named g.I.Item.value g.K.Key.kind c.args.level) _ (vec_len c.loop-rest.out) over) (c.loop-rest.invariant.run s).2

pub returns-clause-long : goal.returns-clause-long
returns-clause-long g c = omega (arith, (done _ c.args.items.now c.loop-rest.rest.now (vec_len c.loop-rest.out) c.loop-rest-test.ensures c.loop-rest.invariant.held), c.loop-rest.invariant.short)

pub returns-clause-above : goal.returns-clause-above
returns-clause-above g c s =
    (c.loop-rest.invariant.run s).1 ∙ all_values (node_above g.K.Key.code g.I.Item.named g.I.Item.value g.D.Digest.digests g.I.Item.below g.K.Key.kind c.args.level) _ (vec_len c.loop-rest.out) ((done _ c.args.items.now c.loop-rest.rest.now (vec_len c.loop-rest.out) c.loop-rest-test.ensures c.loop-rest.invariant.held))
