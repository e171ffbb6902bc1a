use Rattle.node.specs.Items.{item_bytes}
use Rattle.node.proofs.Reading.{item_apart, step_over}
use Rattle.node.proofs.entries.ItemsIterator.next.Goals as goal

pub returns-clause-steps : goal.returns-clause-steps
returns-clause-steps g c =
    let apart = item_apart g.K.Key.code g.I.Item.named g.I.Item.value g.met.K.Key.apart g.met.I.Item.apart in
    step_over (item_bytes g.K.Key.code g.I.Item.named g.I.Item.value) apart c.args.self.now.rest.now _ c.args.self.now.left _ c.if-self-eq0.false c.in_ok-item.ensures
