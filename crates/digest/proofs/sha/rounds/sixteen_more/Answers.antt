use Rattle.std.proofs.Common.{◌≡◌, ℕ, ◌+◌, List, length, subst, arith}
use Rattle.digest.specs.declared.sha.functions.Words.{Words}
use Rattle.digest.specs.declared.sha.rounds.Held.{Held}
use Rattle.digest.specs.Rounds.{Holds, Leads}
use Rattle.digest.proofs.sha.rounds.sixteen_more.Goals as goal

-- one round on, counted as the caller counts
goes : (m : List ℕ) (s : Words) → length m ≡ 16 → (t u : ℕ) (g h : Held) → t + 1 ≡ u → Leads t (t + 1) g h → Holds m s t g → Holds m s u h
goes m s long t u g h e leads held = subst (λ n. Holds m s n h) e (leads m s long held)

pub returns : goal.returns
returns c m s long h =
    let t = c.args.t in
    let h1 = goes m s long t (t + 1) _ _ (omega arith) c.later.ensures h in
    let h2 = goes m s long (t + 1) (t + 2) _ _ (omega arith) c.later-2.ensures h1 in
    let h3 = goes m s long (t + 2) (t + 3) _ _ (omega arith) c.later-3.ensures h2 in
    let h4 = goes m s long (t + 3) (t + 4) _ _ (omega arith) c.later-4.ensures h3 in
    let h5 = goes m s long (t + 4) (t + 5) _ _ (omega arith) c.later-5.ensures h4 in
    let h6 = goes m s long (t + 5) (t + 6) _ _ (omega arith) c.later-6.ensures h5 in
    let h7 = goes m s long (t + 6) (t + 7) _ _ (omega arith) c.later-7.ensures h6 in
    let h8 = goes m s long (t + 7) (t + 8) _ _ (omega arith) c.later-8.ensures h7 in
    let h9 = goes m s long (t + 8) (t + 9) _ _ (omega arith) c.later-9.ensures h8 in
    let h10 = goes m s long (t + 9) (t + 10) _ _ (omega arith) c.later-10.ensures h9 in
    let h11 = goes m s long (t + 10) (t + 11) _ _ (omega arith) c.later-11.ensures h10 in
    let h12 = goes m s long (t + 11) (t + 12) _ _ (omega arith) c.later-12.ensures h11 in
    let h13 = goes m s long (t + 12) (t + 13) _ _ (omega arith) c.later-13.ensures h12 in
    let h14 = goes m s long (t + 13) (t + 14) _ _ (omega arith) c.later-14.ensures h13 in
    let h15 = goes m s long (t + 14) (t + 15) _ _ (omega arith) c.later-15.ensures h14 in
    goes m s long (t + 15) (t + 16) _ _ (omega arith) c.later-16.ensures h15
