use Rattle.std.proofs.Common.{refl, ◌∙◌, ap₂, arith}
use Rattle.std.specs.Ordering.{is_lt, nat_cmp}
use Rattle.std.proofs.lemmas.Cmp.{same_from_slice_cmp_tested}
use Rattle.std.proofs.lemmas.Bool.Decides.{nat_tests}
use Rattle.table.specs.Codes.{lex_before}
use Rattle.table.proofs.bytes_key.BytesKeyKey.precedes.Goals as goal

pub returns : goal.returns
returns c =
    same_from_slice_cmp_tested nat_cmp is_lt lex_before refl (λ _ _. refl) (λ _ _. refl) (λ x y xs ys o h. grind (arith, nat_tests)) c.as_slice.result.now c.as_slice-2.result.now c.lt.result c.lt.ensures
    ∙ ap₂ lex_before c.as_slice.ensures c.as_slice-2.ensures
