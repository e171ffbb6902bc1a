use Rattle.std.proofs.Common.{ap, ◌∙◌}
use Rattle.store.specs.Meaning.{checked}
use Rattle.store.proofs.Verified.{after_checked}
use Rattle.store.proofs.verifying.VerifyingChunkStore.put.Goals as goal

pub returns-in_default-2-clause-after : goal.returns-in_default-2-clause-after
returns-in_default-2-clause-after g c =
    let d = g.D.Digest.digests in
    let m = g.S.ChunkStore.meaning c.args.self.now.inner in
    λ s. ap (checked d) (c.put.ensures.after s) ∙ after_checked d m c.args.chunk.now c.put.result
