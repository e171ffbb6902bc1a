use Rattle.tree_laws.proofs.Stores.{one_table}
use Rattle.tree_laws.proofs.one_store_one_table.Goals as goal

pub returns : goal.returns
returns g c = one_table g.D.Digest.digests g.met.D.WholeDigest.whole
