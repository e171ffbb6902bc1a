use Rattle.std.proofs.Common.{◌-◌, ◌/◌, ◌%◌, length, take, drop, ap, ◌∙◌}
use Rattle.std.proofs.lemmas.List.{take_rest}
use Rattle.digest.specs.Sha256.{blocks}
use Rattle.digest.proofs.Blocks.{digest_by}
use Rattle.digest.proofs.sha.Sha256.message_digest.Goals as goal

pub returns : goal.returns
returns c =
    let bs = c.args.message.now in
    let at = length bs - length bs % 64 in
    c.output.ensures ∙ digest_by bs (take (length bs - at) (drop at bs)) c.bit_length.result c.take_blocks-s.result c.finish.result (take_rest bs at) c.bit_length.ensures (c.take_blocks-s.ensures ∙ ap (blocks (length bs / 64) bs) c.start.ensures) c.finish.ensures
