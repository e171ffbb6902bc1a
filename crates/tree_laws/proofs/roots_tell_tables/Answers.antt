use Rattle.table.proofs.Tables.{by_key}
use Rattle.tree_laws.proofs.Typed.{root_laws}
use Rattle.tree_laws.proofs.roots_tell_tables.Goals as goal

pub returns : goal.returns
returns g c =
    let met = g.met.K.Key in
    root_laws g.K.Key.code met.apart g.D.Digest.digests g.met.D.WholeDigest.whole g.K.Key.kind g.K.Key.before (by_key g.K.Key.before met.strict met.chain met.total)
