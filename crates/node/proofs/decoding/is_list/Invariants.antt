use Rattle.node.specs.Items.{item_bytes}
use Rattle.node.proofs.Reading.{SoFar}
use Rattle.node.proofs.decoding.is_list.Given as goal

abbrev pub invariant-loop : goal.invariant-loop
invariant-loop g l = SoFar (item_bytes g.K.Key.code g.I.Item.named g.I.Item.value) g.K.Key.before g.I.Item.named l.body l.rest l.counter l.last
