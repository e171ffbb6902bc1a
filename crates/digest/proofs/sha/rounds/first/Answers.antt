use Rattle.std.proofs.Common.{◌≡◌, ◌%◌, add-one, arith}
use Rattle.digest.specs.Sha256.{after}
use Rattle.digest.proofs.sha.rounds.first.Goals as goal

pub returns : goal.returns
unfolding after
returns g c m s long h =
    let t = g.row.T in
    let own = h.newest t (omega arith) (omega arith) in
    let same : t % 16 ≡ t = omega arith in
    let one = add-one t in
    record {
      working = rw one (cc (same, own, c.step-held.ensures, c.constant.ensures, h.working));
      newest = λ k l g. h.newest k (omega arith) (omega arith);
    }
