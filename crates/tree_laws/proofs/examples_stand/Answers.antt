use Rattle.tree_laws.proofs.Worked.{examples}
use Rattle.tree_laws.proofs.examples_stand.Goals as goal

pub returns : goal.returns
returns c = examples
