use Rattle.std.proofs.Common.{ap, ◌∙◌}
use Rattle.digest.specs.Bytes.{of_bytes}
use Rattle.digest.specs.Sha256.{sha256_address}
use Rattle.digest.proofs.sha.Sha256Digest.digest.Goals as goal

pub returns : goal.returns
unfolding sha256_address
returns c = c.from.ensures ∙ ap of_bytes c.message_digest.ensures
