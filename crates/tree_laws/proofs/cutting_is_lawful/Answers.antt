use Rattle.tree_laws.proofs.Cutting.{cut_laws}
use Rattle.tree_laws.proofs.cutting_is_lawful.Goals as goal

pub returns : goal.returns
returns g c = cut_laws _
