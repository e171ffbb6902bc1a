use Rattle.std.proofs.Common.{◌++◌, length, ap, ◌∙◌, arith}
use Rattle.node.specs.Chunks.{written}
use Rattle.node.specs.Links.{link_length}
use Rattle.node.proofs.Linking.{wrote_link}
use Rattle.node.proofs.item.ChildItem.write_value.Goals as goal

pub returns-clause-text : goal.returns-clause-text
returns-clause-text g c =
    let was = written c.args.chunk.now in
    let one = written c.append.new.self in
    wrote_link was one (written c.append-2.new.self) c.args.self.now.at c.args.self.now.below
    (c.append.ensures.text ∙ ap (λ w. was ++ w) c.from-at.ensures)
    (c.append-2.ensures.text ∙ ap (λ w. one ++ w) c.to_be_bytes-below.ensures)

pub returns-clause-len : goal.returns-clause-len
returns-clause-len g c =
    omega (arith, c.append.ensures.len, c.append-2.ensures.len, ap length c.from-at.ensures, ap length c.to_be_bytes-below.ensures, link_length c.args.self.now.at c.args.self.now.below)
