-- What a clause reads of an `Index`.
use Rattle.std.specs.Prelude.{List, vec_items}
use Rattle.digest.specs.declared.address.Address.{Address}
use Rattle.index.specs.declared.table.Index.{Index}

-- the addresses of an index, in the order in which they were inserted
abbrev pub index_keys : Index → List Address
index_keys i = vec_items i.keys
