use Rattle.digest.proofs.Blocks.{padding_fills_lem}
use Rattle.digest.proofs.sha.padding_fills.Goals as goal

pub returns : goal.returns
returns c = padding_fills_lem
