use Rattle.std.proofs.Common.{◌*◌, ◌/◌, ◌<◌, [], ◌∷◌, ◌++◌, length, get_or, drop, sym, refl, ap, ◌∙◌, add-one, arith}
use Rattle.std.proofs.lemmas.List.{length-set, take_more_set}
use Rattle.digest.specs.Sha256.{words_of, big_endian}
use Rattle.digest.proofs.Blocks.{words_more, chunk_at, four_of}
use Rattle.digest.proofs.sha.rounds.load.Goals as goal

pub loop-i-init : goal.loop-i-init
unfolding words_of
loop-i-init c = (refl, refl)

pub loop-i-preserved : goal.loop-i-preserved
loop-i-preserved c =
    let i = c.loop-i.i in
    let w = c.loop-i.w in
    let b = c.args.block.now in
    let few : i < length b / 4 = omega (arith, c.as_chunks.ensures.front_len) in
    let lt : i < length w = omega arith in (
      length-set w i _ ∙ c.loop-i.invariant.0,
      take_more_set w i _ lt ∙ ap (λ l. l ++ c.from_be_bytes.result ∷ []) c.loop-i.invariant.1 ∙ ap (λ x. words_of i b ++ x ∷ []) (c.from_be_bytes.ensures ∙ ap big_endian (ap (λ ws. get_or ws i []) c.as_chunks.ensures.front ∙ chunk_at 4 (length b / 4) b i [] few) ∙ four_of (drop (4 * i) b)) ∙ sym (words_more i b) ∙ ap (λ k. words_of k b) (sym (add-one i)),
    )
