use Rattle.std.proofs.Common.{◌<◌}
use Rattle.tree_laws.proofs.Loops.{Sought}
use Rattle.node.specs.Items.{item_marked}
use Rattle.node.proofs.boundary.first.Given as goal

abbrev pub invariant-loop-i : goal.invariant-loop-i
invariant-loop-i g l = Sought (item_marked g.K.Key.code g.I.Item.named l.level) l.items l.i × (l.i < 32)
