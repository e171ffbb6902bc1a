-- A tree whose chunks were all put stands in the store.
use Rattle.std.proofs.Common.{ℕ, Bool, List, map, Ok, sym, subst}
use Rattle.digest.specs.declared.address.Address.{Address}
use Rattle.store.specs.Meaning.{Meaning}
use Rattle.store.specs.Laws.{AllHeld}
use Rattle.store.proofs.Lawful.{lawful}
use Rattle.table.specs.Table.{Table}
use Rattle.table.specs.declared.entry.Entry.{Entry}
use Rattle.tree_laws.specs.Tree.{chunks}
use Rattle.tree.specs.Build.{PutsTree, BuiltWhole}
use Rattle.tree_laws.specs.Tables.{row_of}
use Rattle.tree.specs.declared.upper.Built.{Built}

pub built_whole : {K : Type 0} (d : List ℕ → Address) (kind : ℕ) (code : K → List ℕ) (before : K → K → Bool) (m : Meaning) (es : List (Entry K)) (b : Built) (m' : Meaning)
    → Table before es → PutsTree d kind m (map (row_of code) es) (Ok b) m' → BuiltWhole d kind code before m es b m'
built_whole d kind code before m es b m' table (root_is, put) =
    let cs = chunks d kind (map (row_of code) es) in
    record {
      table = table;
      put = put;
      stands = record { root_is = root_is; held = subst (λ n. AllHeld d n cs) (sym put.after) ((lawful d).all_present m cs put.accepted) };
    }
