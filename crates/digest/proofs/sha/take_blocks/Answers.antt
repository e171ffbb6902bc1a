use Rattle.std.proofs.Common.{◌≡◌, ◌*◌, ◌/◌, ◌<◌, [], length, get_or, take, drop, sym, refl, ap, ◌∙◌, add-one, arith}
use Rattle.digest.specs.Sha256.{blocks, compress, words_of}
use Rattle.digest.proofs.Blocks.{blocks_more, chunk_at}
use Rattle.digest.proofs.sha.take_blocks.Goals as goal

pub loop-block-init : goal.loop-block-init
unfolding blocks
loop-block-init c = refl

pub loop-block-preserved : goal.loop-block-preserved
loop-block-preserved c =
    let b = c.args.bytes.now in
    let i = c.loop-block.block-index in
    let few : i < length b / 64 = omega (arith, c.as_chunks.ensures.front_len) in
    c.take_block-s.ensures
    ∙ ap (λ ws. compress c.loop-block.s (words_of 16 (get_or ws i []))) c.as_chunks.ensures.front
    ∙ ap (λ l. compress c.loop-block.s (words_of 16 l)) (chunk_at 64 (length b / 64) b i [] few)
    ∙ ap (λ s. compress s (words_of 16 (take 64 (drop (64 * i) b)))) c.loop-block.invariant
    ∙ sym (blocks_more i b c.args.start)
    ∙ ap (λ k. blocks k b c.args.start) (sym (add-one i))

pub returns : goal.returns
returns c =
    let e : c.loop-block.block-index ≡ length c.args.bytes.now / 64 = omega (arith, c.as_chunks.ensures.front_len) in
    c.loop-block.invariant ∙ ap (λ k. blocks k c.args.bytes.now c.args.start) e
