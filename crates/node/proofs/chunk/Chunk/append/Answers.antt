use Rattle.std.proofs.Common.{◌+◌, ◌++◌, length, take, sym, refl, ap, ◌∙◌, arith}
use borrow.Rule.Slice.PartMut.{same_len_mid}
use Rattle.std.proofs.lemmas.Slice.{take-put_mid}
use Rattle.node.proofs.chunk.Chunk.append.Goals as goal

pub invariant_of-self : goal.invariant_of-self
invariant_of-self c = record {
  whole = same_len_mid c.args.self.now.len _ c.args.self.now.bytes c.copy_from_slice.new.self c.copy_from_slice.ensures.len ∙ c.args.self.now.whole;
  short = omega arith;
}

pub returns : goal.returns
returns c = record {
  text =
      take-put_mid c.args.self.now.len _ c.args.self.now.bytes c.copy_from_slice.new.self _ (ap (λ s. c.args.self.now.len + length s) (sym c.copy_from_slice.ensures.after)) (omega arith)
      ∙ ap (λ s. take c.args.self.now.len c.args.self.now.bytes ++ s) c.copy_from_slice.ensures.after;
  len = refl;
}
