use Rattle.std.proofs.Common.{◌≡◌, ℕ, ◌*◌, ◌/◌, ◌<◌, [], get_or, length, ap, ◌∙◌, arith}
use Rattle.digest.specs.Bytes.{word_at}
use Rattle.digest.proofs.Eights.{word_of}
use Rattle.digest.proofs.address.AddressFromArrayU832.from.Goals as goal

pub returns : goal.returns
returns c =
    let bs = c.args.bytes in
    let word : (i : ℕ) → i < length bs / 8 → word_at (get_or c.as_chunks.result.0.now i []) 0 ≡ word_at bs (8 * i) = λ i few. ap (λ ws. word_at (get_or ws i []) 0) c.as_chunks.ensures.front ∙ word_of bs (length bs / 8) i few in
    let w0 = c.from_be_bytes.ensures ∙ word 0 (omega (arith, c.as_chunks.ensures.front_len)) in
    let w1 = c.from_be_bytes-2.ensures ∙ word 1 (omega (arith, c.as_chunks.ensures.front_len)) in
    let w2 = c.from_be_bytes-3.ensures ∙ word 2 (omega (arith, c.as_chunks.ensures.front_len)) in
    let w3 = c.from_be_bytes-4.ensures ∙ word 3 (omega (arith, c.as_chunks.ensures.front_len)) in
    λ k. record { w0 = w0 k; w1 = w1 k; w2 = w2 k; w3 = w3 k }
