use Rattle.std.proofs.Common.{◌≡◌, ◌+◌, ◌^◌, ◌<◌, ◌≤◌, map, length, vec_items, vec_len, vec_capacity, Err, sym, refl, ap, ◌∙◌, subst, add-one, arith}
use Rattle.std.proofs.lemmas.List.{length-map}
use Rattle.std.proofs.lemmas.Result.{err_from_is_err_and}
use Rattle.tree_laws.specs.Boundary.{nodes}
use Rattle.tree_laws.specs.Layout.{inner_bytes}
use Rattle.tree_laws.specs.Tree.{child_marked, next}
use Rattle.tree_laws.proofs.Local.{halves, halved}
use Rattle.node.specs.Items.{child_of, item_marked, total_below}
use Rattle.node.specs.declared.child.Child.{Child as Typed}
use Rattle.tree.specs.Build.{Raises}
use Rattle.tree.proofs.Bridges.{inner_chunks, inner_children}
use Rattle.tree.proofs.Climb.{Climbing, climb_start, climb_more, climb_stop, some_fuel, some_node}
use Rattle.tree.proofs.upper.put_upper.Goals as goal

pub loop-next-init : goal.loop-next-init
loop-next-init g c = (
  (c.requires.some, c.requires.few),
  c.requires.room,
  c.requires.total,
  omega arith,
  omega arith,
  (15, refl, c.requires.few, λ s. (s, climb_start g.D.Digest.digests g.K.Key.kind (g.S.ChunkStore.meaning c.args.store.now) (map (child_of g.K.Key.code) (vec_items c.args.here)))),
)

pub returns-in_err-taken-clause-does : goal.returns-in_err-taken-clause-does
returns-in_err-taken-clause-does g c s =
    let code = g.K.Key.code in
    let d = g.D.Digest.digests in
    let kind = g.K.Key.kind in
    let m = g.S.ChunkStore.meaning in
    let level = c.loop-next.level in
    let here = c.loop-next.here in
    let is : c.as_slice.result.now ≡ vec_items here = c.as_slice.ensures.value in
    let size : length c.as_slice.result.now ≡ vec_len here = c.as_slice.ensures.len in
    let two : 2 ≤ vec_len here = omega (arith, c.loop-next-test.true, c.len.ensures) in
    let inv = c.loop-next.invariant in
    let was = inv.5.3 s in
    let fuel = some_fuel inv.5.0 (vec_len here) two inv.5.2 in
    let cs₀ = map (child_of code) (vec_items c.args.here) in
    let cs = map (child_of code) (vec_items here) in
    let pair : 2 ≤ length cs = rw length-map (omega (arith, ap length is, size, two)) in
    let climb = subst (λ f. Climbing d kind (m c.args.store.now) cs₀ f level cs c.loop-next.taken (m c.loop-next.store)) fuel.1 was.1 in
    let end = err_from_is_err_and c.from_residual.result c.from_residual.ensures.1 in
    subst (λ r. Raises d kind (m c.args.store.now) cs₀ r (m c.put_level.new.store)) (sym (end.1 ∙ ap Err end.2))
    (climb_stop d kind (m c.args.store.now) (m c.loop-next.store) (m c.put_level.new.store) cs₀ fuel.0 level cs c.loop-next.taken pair climb
    _ c.in_err-taken.field-0.0 (inner_chunks code d kind level c.as_slice.result.now ∙ ap (λ xs. map (inner_bytes kind level) (nodes (child_marked level) (map (child_of code) xs))) is) (c.in_err-taken.ensures.does was.0))

pub loop-next-smaller : goal.loop-next-smaller
loop-next-smaller g c =
    let items = c.as_slice.result.now in
    let mark = item_marked g.K.Key.code (λ (e : Typed g.row.K.Denot). e.key) c.loop-next.level in
    let long : vec_len c.swap.new.x ≡ length (nodes mark items) = ap vec_len c.swap.ensures.x_after ∙ c.in_ok-taken.ensures.long in
    omega (arith, long, halves mark items, c.as_slice.ensures.len, c.loop-next-test.true, c.len.ensures)

pub loop-next-preserved : goal.loop-next-preserved
loop-next-preserved g c =
    let code = g.K.Key.code in
    let d = g.D.Digest.digests in
    let kind = g.K.Key.kind in
    let m = g.S.ChunkStore.meaning in
    let level = c.loop-next.level in
    let here = c.loop-next.here in
    let items = c.as_slice.result.now in
    let is : items ≡ vec_items here = c.as_slice.ensures.value in
    let size : length items ≡ vec_len here = c.as_slice.ensures.len in
    let two : 2 ≤ vec_len here = omega (arith, c.loop-next-test.true, c.len.ensures) in
    let mark = item_marked code (λ (e : Typed g.row.K.Denot). e.key) level in
    let ok = c.in_ok-taken.ensures in
    let out = c.put_level.new.out in
    let over = c.swap.ensures.x_after in
    let back = c.swap.ensures.y_after in
    let long : vec_len c.swap.new.x ≡ length (nodes mark items) = ap vec_len over ∙ ok.long in
    let inv = c.loop-next.invariant in
    let fuel = some_fuel inv.5.0 (vec_len here) two inv.5.2 in
    let half = halves mark items in
    let cap : vec_capacity c.swap.new.y ≡ vec_capacity here = ap vec_capacity back in (
      (omega (arith, long, some_node mark items (omega (arith, size, two))), omega (arith, long, half, size, inv.0.1)),
      omega (arith, long, half, size, cap, here.ok.1, two),
      subst (λ v. total_below (λ e. e.below) (vec_items v) < 2 ^ 32) (sym over) (subst (λ n. n < 2 ^ 32) (sym ok.total) (subst (λ xs. total_below (λ e. e.below) xs < 2 ^ 32) (sym is) inv.2)),
      omega (arith, ok.count, ok.long, half, size, inv.0.1, inv.3),
      omega arith,
      (
        fuel.0,
        omega (arith, fuel.1, inv.5.1),
        subst (λ n. n ≤ 2 ^ fuel.0) (sym long) (halved mark fuel.0 items (subst (λ k. length items ≤ 2 ^ k) fuel.1 (omega (arith, size, inv.5.2)))),
        λ s.
            let cs₀ = map (child_of code) (vec_items c.args.here) in
            let cs = map (child_of code) (vec_items here) in
            let pair : 2 ≤ length cs = rw length-map (omega (arith, ap length is, size, two)) in
            let climb = subst (λ f. Climbing d kind (m c.args.store.now) cs₀ f level cs c.loop-next.taken (m c.loop-next.store)) fuel.1 (inv.5.3 s).1 in (
              ok.kept (inv.5.3 s).0,
              climb_more d kind (m c.args.store.now) (m c.loop-next.store) (m c.put_level.new.store) cs₀ fuel.0 level cs c.loop-next.taken pair climb
                  _ (map (child_of code) (vec_items c.swap.new.x)) (level + 1) c.in_ok-taken.field-0
                  (inner_chunks code d kind level items ∙ ap (λ xs. map (inner_bytes kind level) (nodes (child_marked level) (map (child_of code) xs))) is)
                  (ap (λ v. map (child_of code) (vec_items v)) over ∙ (ok.above (inv.5.3 s).0 ∙ (inner_children code d kind level items ∙ ap (λ xs. next d kind level (map (child_of code) xs)) is)))
                  (add-one level) (ok.does (inv.5.3 s).0),
            ),
      ),
    )
