-- What a call answered, by what became of it under `map_err`.
use Rattle.std.proofs.Common.{◌≡◌, ℕ, Ok, Err, Result, refl, subst, arith}
use Rattle.std.specs.Result.{MatchResult, IsErrAnd}

pub ok_was : {T E D : Type 0} (r : Result T E) (q : Result T D) (x : T) (P : E → D → Type 0) → q ≡ Ok x → MatchResult r (λ y. q ≡ Ok y) (λ e. IsErrAnd q (P e)) → r ≡ Ok x
ok_was (Ok y) q x P e h = cc
ok_was (Err f) q x P e h = absurd (subst (λ w. IsErrAnd w (P f)) e h)

pub err_was : {T E D : Type 0} (r : Result T E) (q : Result T D) (f : D) (P : E → D → Type 0) → q ≡ Err f → MatchResult r (λ y. q ≡ Ok y) (λ e. IsErrAnd q (P e)) → (e : E) × (r ≡ Err e) × P e f
err_was (Ok y) q f P e h = let z : ◌≡◌ {A = ℕ} 0 1 = cc in absurd (omega arith)
err_was (Err d) q f P e h = (d, refl, subst (λ w. IsErrAnd w (P d)) e h)
