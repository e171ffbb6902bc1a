use Rattle.std.proofs.Common.{◌≡◌, length, take}
use Rattle.digest.specs.Sha256.{words_of}
use Rattle.digest.proofs.sha.rounds.load.Given as goal

abbrev pub invariant-loop-i : goal.invariant-loop-i
invariant-loop-i l = (length l.w ≡ 16) × (take l.i l.w ≡ words_of l.i l.block)
