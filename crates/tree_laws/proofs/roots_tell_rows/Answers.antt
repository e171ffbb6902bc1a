use Rattle.tree_laws.proofs.Roots.{root_same}
use Rattle.tree_laws.proofs.roots_tell_rows.Goals as goal

pub returns : goal.returns
returns g c = root_same g.D.Digest.digests g.met.D.WholeDigest.whole
