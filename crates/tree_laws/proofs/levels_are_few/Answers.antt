use Rattle.tree_laws.proofs.Levels.{root_level, rises_same}
use Rattle.tree_laws.proofs.levels_are_few.Goals as goal

pub returns : goal.returns
returns c = record { few = root_level; only = λ d kind l t u cs r s p q. rises_same d kind p q }
