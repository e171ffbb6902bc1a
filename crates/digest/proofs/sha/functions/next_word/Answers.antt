use Rattle.digest.specs.Sha256.{next_word}
use Rattle.digest.proofs.sha.functions.next_word.Goals as goal

pub returns : goal.returns
unfolding next_word
returns c = cc
