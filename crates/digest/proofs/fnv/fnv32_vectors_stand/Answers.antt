use Rattle.std.proofs.Common.{refl}
use Rattle.digest.specs.Fnv.{fnv}
use Rattle.digest.proofs.fnv.fnv32_vectors_stand.Goals as goal

pub returns : goal.returns
unfolding fnv
returns c = record { of_00 = refl; of_00_01 = refl; of_00_02 = refl }
