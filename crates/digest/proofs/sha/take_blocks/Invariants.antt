use Rattle.std.proofs.Common.{◌≡◌}
use Rattle.digest.specs.Sha256.{blocks}
use Rattle.digest.proofs.sha.take_blocks.Given as goal

abbrev pub invariant-loop-block : goal.invariant-loop-block
invariant-loop-block l = l.s ≡ blocks l.block-index l.bytes l.initial.s
