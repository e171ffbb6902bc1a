use Rattle.store.proofs.Lawful.{lawful}
use Rattle.store.proofs.laws.puts_are_lawful.Goals as goal

pub returns : goal.returns
returns g c = lawful g.D.Digest.digests
