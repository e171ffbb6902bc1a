use Rattle.std.proofs.Common.{◌≡◌, ℕ, ◌^◌, ◌<◌, List, get_or, Ok, Err, Some, Result, sym, ap, ◌∙◌, subst, arith, w64, to_z, of_z}
use Rattle.std.specs.Array.{IsWholeChunk}
use Rattle.std.specs.Int.{from_be_bytes}
use Rattle.std.specs.Result.{MatchResult, result_ok}
use Rattle.std.proofs.lemmas.Int.{of_z-to_z}
use Rattle.std.proofs.lemmas.Nat.{be_bytes_8}
use Rattle.table.proofs.int_key.IntKeyKey.decode.Goals as goal

-- what an `ok` of a converted slice holds
whole : {E : Type 0} (r : Result (List ℕ) E) (s bs : List ℕ) (Q : E → Type 0) → MatchResult r (λ y. IsWholeChunk s y 8) Q → result_ok r ≡ Some bs → IsWholeChunk s bs 8
whole (Ok y) s bs Q h e = let p : y ≡ bs = cc in subst (λ w. IsWholeChunk s w 8) p h
whole (Err y) s bs Q h e = let z : ◌≡◌ {A = ℕ} 0 1 = cc in absurd (omega arith)

pub returns : goal.returns
returns c =
    let s = c.args.s.now in
    let w = whole c.try_from.result s c.in_ok-bytes.bytes _ c.try_from.ensures.1 (sym c.ok.ensures.value ∙ c.in_ok-bytes.was) in
    let t : (i : ℕ) → get_or s i 0 < 256 = λ i. (c.type_inv.s i).fits in
    let below : from_be_bytes w64 s < 2 ^ 64 = omega (arith, t 0, t 1, t 2, t 3, t 4, t 5, t 6, t 7) in
    let n : of_z w64 (to_z w64 (from_be_bytes w64 s)) ≡ from_be_bytes w64 s = of_z-to_z w64 (from_be_bytes w64 s) below in
    let r : c.from_be_bytes.result ≡ to_z w64 (from_be_bytes w64 s) = c.from_be_bytes.ensures ∙ ap (λ bs. to_z w64 (from_be_bytes w64 bs)) w.same in
    let v : c.new.result.value ≡ to_z w64 (from_be_bytes w64 s) = c.new.ensures ∙ ap (λ z. to_z w64 (of_z w64 z)) r ∙ ap (to_z w64) n in
    be_bytes_8 s (of_z w64 c.new.result.value) w.long t (ap (of_z w64) v ∙ n)
