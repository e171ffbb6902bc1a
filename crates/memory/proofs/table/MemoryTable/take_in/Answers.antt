use Rattle.std.proofs.Common.{◌-◌, ◌≤◌, cond, vec_len, refl, ap, ◌∙◌, arith}
use Rattle.digest.specs.Bytes.{same_address}
use Rattle.store.specs.Meaning.{chunk}
use Rattle.store.proofs.Slots.{meaning_eq}
use Rattle.memory.specs.Table.{held}
use Rattle.memory.proofs.Held.{held_more, small_more}
use Rattle.memory.proofs.table.MemoryTable.take_in.Goals as goal

pub invariant_of-self-2 : goal.invariant_of-self-2
invariant_of-self-2 c =
    let t = c.args.self.now in
    let n = c.in_ok-kept.ensures.len in
    let l : vec_len c.in_ok-kept.kept ≤ 2488 = omega (arith, n, c.requires.small) in
    record { small = small_more t.chunks c.insert.new.self c.args.address c.in_ok-kept.kept c.in_ok-insert.ensures.updates.0 t.small l; few = omega (arith, t.few) }

pub returns-clause-after : goal.returns-clause-after
returns-clause-after c =
    let t = c.args.self.now in
    let a = c.args.address in
    meaning_eq _ _ (λ q. held_more t.chunks c.insert.new.self a c.in_ok-kept.kept c.in_ok-insert.ensures.updates.0 q ∙ ap (λ x. cond (same_address q a) (chunk x) (held t.chunks q)) c.in_ok-kept.ensures.items) (ap (λ x. t.free - x) c.cost_of-cost.ensures) refl
