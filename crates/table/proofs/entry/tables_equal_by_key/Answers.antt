use Rattle.table.proofs.Tables.{by_key}
use Rattle.table.proofs.entry.tables_equal_by_key.Goals as goal

pub returns : goal.returns
returns g c = by_key g.K.Key.before g.met.K.Key.strict g.met.K.Key.chain g.met.K.Key.total
