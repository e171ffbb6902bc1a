use Rattle.digest.proofs.Bitwise.{choose_by}
use Rattle.digest.proofs.sha.functions.choose.Goals as goal

pub returns : goal.returns
returns c = choose_by 32 _ _ _ c.ranges.x.fits c.ranges.z.fits
