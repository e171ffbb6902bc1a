-- What a memory table means.
use Rattle.std.specs.Prelude.{ℕ}
use Rattle.std.specs.HashMap.{hash_map_len}
use Rattle.store.specs.Meaning.{Meaning}
use Rattle.memory.specs.Table.{means}
use Rattle.memory.specs.declared.table.MemoryTable.{MemoryTable}

abbrev pub table_means : MemoryTable → Meaning
table_means t = means t.chunks t.free t.root

-- how many chunks a table has
abbrev pub table_len : MemoryTable → ℕ
table_len t = hash_map_len t.chunks
