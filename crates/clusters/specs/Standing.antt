-- How a record stands to what the other cluster has at its place.
use Rattle.std.specs.Prelude.{cond, ◌&&◌, Some, None, Option}
use Rattle.digest.specs.Bytes.{same_address}
use Rattle.clusters.specs.declared.cluster.Record.{Record}
use Rattle.clusters.specs.declared.cluster.Standing.{Standing}
use Rattle.clusters.specs.declared.cluster.Standing.TheVariants.{Same, Differs, Alone}

-- the same where both digests give both records one address, else different from the record that is there
abbrev pub standing_of : Record → Option Record → Standing
standing_of here None = Alone
standing_of here (Some there) = cond (same_address here.sha256 there.sha256 && same_address here.fnv64 there.fnv64) Same (Differs there)
