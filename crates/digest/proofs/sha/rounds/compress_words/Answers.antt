use Rattle.std.proofs.Common.{◌≡◌, ℕ, ◌+◌, ◌*◌, ◌%◌, ◌<◌, length, get_or, sym, refl, ap, ◌∙◌, subst, arith, rules}
use Rattle.digest.specs.Sha256.{after, compress, plus}
use Rattle.digest.specs.Rounds.{Holds}
use Rattle.digest.proofs.Schedule.{word_own}
use Rattle.digest.proofs.sha.rounds.compress_words.Goals as goal

pub loop-group-init : goal.loop-group-init
loop-group-init c m s long h = h

pub loop-group-preserved : goal.loop-group-preserved
loop-group-preserved c m s long h =
    let e : 16 * c.loop-group.group + 16 ≡ 16 * (c.loop-group.group + 1) = omega arith in
    subst (λ n. Holds m s n c.sixteen_more.new.held) e (c.sixteen_more.ensures m s long (c.loop-group.invariant m s long h))

pub returns : goal.returns
unfolding compress after
returns c =
    let m = c.args.m in
    let s = c.args.s in
    let long : length m ≡ 16 = search rules in
    let own : (k : ℕ) → k < 16 → get_or m (k % 16) 0 ≡ get_or m k 0 = λ k l. let same : k % 16 ≡ k = omega arith in ap (λ i. get_or m i 0) same in
    let began = c.first_sixteen.ensures m s long (record { working = refl; newest = λ k l _. own k l ∙ sym (word_own m long k l) }) in
    let e : 16 * c.loop-group.group ≡ 64 = omega arith in
    c.sum.ensures ∙ ap (λ v. plus s v) ((c.loop-group.invariant m s long began).working ∙ ap (λ t. after m t s) e)
