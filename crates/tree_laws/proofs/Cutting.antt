-- The laws of cuts, together.
use Rattle.tree_laws.specs.Laws.{CutLaws}
use Rattle.tree_laws.proofs.Local.{concat-nodes, restart, resync}
use Rattle.tree_laws.proofs.Rule.{rule_fixes, rule_holds}
use Rattle.tree_laws.proofs.Sizes.{nodes_within, nodes_two}

pub cut_laws : (X : Type 0) → CutLaws X
cut_laws X =
    record {
      entries_back = λ mark. concat-nodes mark 0;
      obeyed = λ mark. rule_holds mark 0;
      fixed = λ mark. rule_fixes mark;
      restarts = λ mark. restart mark;
      meets = λ mark. resync mark;
      within = λ mark. nodes_within mark;
      two_but_last = λ mark. nodes_two mark;
    }
