use Rattle.digest.proofs.Bitwise.{majority_by}
use Rattle.digest.proofs.sha.functions.majority.Goals as goal

pub returns : goal.returns
returns c = majority_by c.args.x c.args.y c.args.z
