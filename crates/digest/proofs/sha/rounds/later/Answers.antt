use Rattle.std.proofs.Common.{◌≡◌, ◌+◌, ◌-◌, ◌%◌, ◌<◌, ◌≤◌, ◌≢◌, length, get_or, set, ap, ◌∙◌, add-one, arith, rules, below_more}
use Rattle.std.proofs.lemmas.List.{get_or-set_same, get_or-set_other}
use Rattle.digest.specs.Sha256.{after, word}
use Rattle.digest.proofs.Schedule.{word_at}
use Rattle.digest.proofs.sha.rounds.later.Goals as goal

pub returns : goal.returns
unfolding after
returns g c m s long h =
    let t = c.args.t in
    let w = c.args.held.now.window in
    let p = g.row.PLACE in
    let x = c.due-x.result in
    let size : length w ≡ 16 = search rules in
    let low : 16 ≤ t = c.requires.0 in
    let high : t < 64 = c.requires.1 in
    let place : t % 16 ≡ p = c.requires.2 in
    let e2 : (p + 14) % 16 ≡ (t - 2) % 16 = omega arith in
    let e7 : (p + 9) % 16 ≡ (t - 7) % 16 = omega arith in
    let e15 : (p + 1) % 16 ≡ (t - 15) % 16 = omega arith in
    let e16 : p ≡ (t - 16) % 16 = omega arith in
    let w2 = h.newest (t - 2) (omega arith) (omega arith) in
    let w7 = h.newest (t - 7) (omega arith) (omega arith) in
    let w15 = h.newest (t - 15) (omega arith) (omega arith) in
    let w16 = h.newest (t - 16) (omega arith) (omega arith) in
    let is = word_at m long t low high in
    let new : x ≡ word m t = cc c.due-x.ensures in
    let one = add-one t in
    let inside : p < length w = omega arith in
    record {
      working = rw one (cc (new, c.step-held.ensures, c.constant.ensures, h.working));
      newest = λ k l g.
          below_more (λ k. t + 1 ≤ k + 16 → get_or (set w p x) (k % 16) 0 ≡ word m k) t
          (λ k l g. let ne : k % 16 ≢ p = omega arith in get_or-set_other w p (k % 16) x 0 ne ∙ h.newest k (omega arith) (omega arith))
          (λ g. ap (λ i. get_or (set w p x) i 0) place ∙ get_or-set_same w p x 0 inside ∙ new)
          k (omega arith) (omega arith);
    }
