use Rattle.std.proofs.Common.{[], ◌∷◌, map, Err, sym, refl, ap, ◌∙◌, subst}
use Rattle.std.proofs.lemmas.List.{nil_from_length}
use Rattle.std.proofs.lemmas.Result.{err_from_is_err_and}
use Rattle.store.proofs.Turns.{stop_one}
use Rattle.tree_laws.specs.Layout.{leaf_bytes}
use Rattle.tree_laws.specs.Tree.{chunks}
use Rattle.tree_laws.specs.Tables.{row_of}
use Rattle.tree.specs.Build.{PutsTree, Stops}
use Rattle.tree.proofs.Bridges.{leaf_chunk}
use Rattle.tree.proofs.build.build_empty.Goals as goal

pub returns-in_err-put-clause-does : goal.returns-in_err-put-clause-does
returns-in_err-put-clause-does g c s =
    let code = g.K.Key.code in
    let d = g.D.Digest.digests in
    let kind = g.K.Key.kind in
    let m = g.S.ChunkStore.meaning in
    let es = c.args.entries.now in
    let nil = nil_from_length es c.requires in
    let put = c.in_err-put.ensures in
    let none = leaf_chunk code d kind es ∙ ap (λ xs. leaf_bytes kind (map (row_of code) xs)) nil in
    let end = err_from_is_err_and c.from_residual.result c.from_residual.ensures.1 in
    subst (λ r. PutsTree d kind (m c.args.store.now) (map (row_of code) es) r (m c.put_node.new.store)) (sym (end.1 ∙ ap Err end.2))
    (subst (λ xs. Stops d (m c.args.store.now) (chunks d kind (map (row_of code) xs)) c.in_err-put.field-0.0 (m c.put_node.new.store)) (sym nil)
    (subst (λ b. Stops d (m c.args.store.now) (b ∷ []) c.in_err-put.field-0.0 (m c.put_node.new.store)) none
    (record { stop = _; at = stop_one d (m c.args.store.now) (m c.put_node.new.store) _ c.in_err-put.field-0.0 (put.answer s) (put.after s); fault_is = refl })))
