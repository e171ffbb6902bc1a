-- What chunks cost, at the edges.
use Rattle.std.specs.Prelude.{◌≡◌}
use Rattle.store.specs.Meaning.{cost}

-- the longest chunk of one unit, the shortest of two, and the longest of all
pub record Costs : Type 0 where
  pub of_472 : cost 472 ≡ 1
  pub of_473 : cost 473 ≡ 2
  pub of_2488 : cost 2488 ≡ 5
