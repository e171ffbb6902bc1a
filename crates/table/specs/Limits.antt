-- What making a key or a cell refuses.
use Rattle.std.specs.Prelude.{ℕ}
use Rattle.table.specs.declared.limit.Limit.{Limit}
use Rattle.table.specs.declared.limit.Limit.TheVariants.{LongKey, LongCell}

-- 15 is a key of more than 32 bytes, 16 a cell of more than 40
abbrev pub limit_number : Limit → ℕ
limit_number LongKey = 15
limit_number LongCell = 16
