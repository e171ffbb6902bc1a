use Rattle.digest.specs.Sha256.{plus}
use Rattle.digest.proofs.sha.functions.sum.Goals as goal

pub returns : goal.returns
unfolding plus
returns c = cc
