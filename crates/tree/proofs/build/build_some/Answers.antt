use Rattle.std.proofs.Common.{[], map, Ok, Err, sym, ap, ◌∙◌, subst, arith}
use Rattle.std.proofs.lemmas.List.{length-map}
use Rattle.std.proofs.lemmas.Result.{err_from_is_err_and}
use Rattle.store.specs.Puts.{AllPut, StoppedAt}
use Rattle.store.proofs.Turns.{put_none, all_append}
use Rattle.table.specs.declared.entry.Entry.{Entry}
use Rattle.tree_laws.specs.Tree.{leaves, leaf_child, chunks_up}
use Rattle.tree_laws.specs.Tables.{row_of}
use Rattle.tree_laws.proofs.Local.{halves}
use Rattle.node.specs.Items.{item_marked}
use Rattle.tree.specs.Build.{PutsTree, Raises}
use Rattle.tree.proofs.Bridges.{ones, leaf_chunks, leaf_children}
use Rattle.tree.proofs.Climb.{some_node, stops_after, stops_behind}
use Rattle.tree.proofs.build.build_some.Goals as goal

pub put_level-requires-clause-few : goal.put_level-requires-clause-few
put_level-requires-clause-few g c =
    let es = c.args.entries.now in
    omega (arith, ones g.K.Key.code g.D.Digest.digests g.K.Key.kind es ∙ length-map es (row_of g.K.Key.code), c.requires.few)

pub put_upper-requires : goal.put_upper-requires
put_upper-requires g c =
    let es = c.args.entries.now in
    let n = ones g.K.Key.code g.D.Digest.digests g.K.Key.kind es ∙ length-map es (row_of g.K.Key.code) in
    let mark = item_marked g.K.Key.code (λ (e : Entry g.row.K.Denot). e.key) 0 in
    let ok = c.in_ok-taken.ensures in
    let half = halves mark es in
    record {
      some = omega (arith, ok.long, some_node mark es c.requires.some);
      few = omega (arith, ok.long, half, c.requires.few);
      room = omega (arith, ok.long, half, c.requires.spared);
      total = omega (arith, ok.total, n, c.requires.few);
    }

pub returns-in_err-taken-clause-does : goal.returns-in_err-taken-clause-does
returns-in_err-taken-clause-does g c s =
    let code = g.K.Key.code in
    let d = g.D.Digest.digests in
    let kind = g.K.Key.kind in
    let m = g.S.ChunkStore.meaning in
    let es = c.args.entries.now in
    let stopped = c.in_err-taken.field-0.0 in
    let leaf = subst (λ cs. StoppedAt d (m c.args.store.now) cs stopped (m c.put_level.new.store)) (leaf_chunks code d kind es c.requires.some) (c.in_err-taken.ensures.does s) in
    let end = err_from_is_err_and c.from_residual.result c.from_residual.ensures.1 in
    subst (λ r. PutsTree d kind (m c.args.store.now) (map (row_of code) es) r (m c.put_level.new.store)) (sym (end.1 ∙ ap Err end.2))
    (stops_after d (m c.args.store.now) (m c.args.store.now) (m c.put_level.new.store) [] _ (chunks_up d kind 15 1 (map (leaf_child d kind) (leaves (map (row_of code) es)))) 0 stopped (put_none d (m c.args.store.now) []) leaf)

pub returns-in_err-upper-clause-does : goal.returns-in_err-upper-clause-does
returns-in_err-upper-clause-does g c s =
    let code = g.K.Key.code in
    let d = g.D.Digest.digests in
    let kind = g.K.Key.kind in
    let m = g.S.ChunkStore.meaning in
    let es = c.args.entries.now in
    let low = c.in_ok-taken.ensures in
    let fault = c.in_err-upper.field-0.0 in
    let above = low.above s ∙ leaf_children code d kind es c.requires.some in
    let up = subst (λ cs. Raises d kind (m c.put_level.new.store) cs (Err fault) (m c.put_upper.new.store)) above (c.in_err-upper.ensures.does (low.kept s)) in
    let leaf = subst (λ cs. AllPut d (m c.args.store.now) cs c.in_ok-taken.taken (m c.put_level.new.store)) (leaf_chunks code d kind es c.requires.some) (low.does s) in
    let end = err_from_is_err_and c.from_residual-in_err-upper.result c.from_residual-in_err-upper.ensures.1 in
    subst (λ r. PutsTree d kind (m c.args.store.now) (map (row_of code) es) r (m c.put_upper.new.store)) (sym (end.1 ∙ ap Err end.2))
    (stops_behind d (m c.args.store.now) (m c.put_level.new.store) (m c.put_upper.new.store) _ _ c.in_ok-taken.taken fault leaf up)

pub returns-clause-does : goal.returns-clause-does
returns-clause-does g c s =
    let code = g.K.Key.code in
    let d = g.D.Digest.digests in
    let kind = g.K.Key.kind in
    let m = g.S.ChunkStore.meaning in
    let es = c.args.entries.now in
    let low = c.in_ok-taken.ensures in
    let upper = c.in_ok-upper.upper in
    let above = low.above s ∙ leaf_children code d kind es c.requires.some in
    let up = subst (λ cs. Raises d kind (m c.put_level.new.store) cs (Ok upper) (m c.put_upper.new.store)) above (c.in_ok-upper.ensures.does (low.kept s)) in
    let leaf = subst (λ cs. AllPut d (m c.args.store.now) cs c.in_ok-taken.taken (m c.put_level.new.store)) (leaf_chunks code d kind es c.requires.some) (low.does s) in
    (up.0, all_append d (m c.args.store.now) (m c.put_level.new.store) _ c.in_ok-taken.taken leaf _ upper.taken (m c.put_upper.new.store) up.1)
