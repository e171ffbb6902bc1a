use Rattle.std.proofs.Common.{length, refl, ap, ◌∙◌, arith}
use Rattle.std.proofs.lemmas.List.{length-take, length-drop, length-set, length-append}
use Rattle.digest.specs.Bytes.{word_bytes}
use Rattle.digest.proofs.Blocks.{closes_by}
use Rattle.digest.proofs.sha.close.Goals as goal

pub returns : goal.returns
returns c =
    closes_by c.args.buf.now c.args.rest.now _ c.fill.new.self c.copy_from_slice-2.new.self (word_bytes c.args.bits) 128 _
    c.requires.room c.copy_from_slice.ensures.after (c.fill.ensures.after (λ y h. h)) (simp (length-take, length-drop, length-set, length-append) (omega (arith, ap length c.copy_from_slice.ensures.after))) (c.copy_from_slice-2.ensures.after ∙ c.to_be_bytes-tail.ensures) refl
