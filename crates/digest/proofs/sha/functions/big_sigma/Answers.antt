use Rattle.std.proofs.Common.{◌∙◌, bit_xor}
use Rattle.digest.proofs.Rotations.{rotr_by}
use Rattle.digest.proofs.sha.functions.big_sigma.Goals as goal

pub returns : goal.returns
returns g c =
    let a = c.rotate_right.ensures ∙ rotr_by g.row.A c.args.x c.requires.positive.0 c.requires.within.0 in
    let b = c.rotate_right-2.ensures ∙ rotr_by g.row.B c.args.x c.requires.positive.1 c.requires.within.1 in
    let d = c.rotate_right-3.ensures ∙ rotr_by g.row.C c.args.x c.requires.positive.2 c.requires.within.2 in
    λ i. bit_xor (bit_xor (a i) (b i)) (d i)
