use Rattle.std.proofs.Common.{◌*◌}
use Rattle.digest.specs.Rounds.{Leads}
use Rattle.digest.proofs.sha.rounds.compress_words.Given as goal

abbrev pub invariant-loop-group : goal.invariant-loop-group
invariant-loop-group l = Leads 16 (16 * l.group) l.initial.held l.held
