-- The byte string that a value holds.
use Rattle.std.specs.Prelude.{ℕ, List, take, ℤ}
use Rattle.table.specs.declared.bytes.Bytes.{Bytes}
use Rattle.table.specs.declared.bytes_key.BytesKey.{BytesKey}
use Rattle.table.specs.declared.cell.Cell.{Cell}
use Rattle.table.specs.declared.int_key.IntKey.{IntKey}

-- the bytes up to its length
abbrev pub string : {n : ℕ} → Bytes n → List ℕ
string b = take b.len b.bytes

-- the bytes of a key of kind 2
abbrev pub key_bytes : BytesKey → List ℕ
key_bytes k = string k.bytes

-- the number that a key of kind 1 is
abbrev pub key_number : IntKey → ℤ
key_number k = k.value

-- the bytes of a cell
abbrev pub cell_bytes : Cell → List ℕ
cell_bytes c = string c.bytes
