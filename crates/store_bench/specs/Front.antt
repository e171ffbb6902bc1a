-- The address that is the first 32 bytes.
use Rattle.std.specs.Prelude.{ℕ, cond, List, length, take, nat_lt}
use Rattle.digest.specs.declared.address.Address.{Address}
use Rattle.digest.specs.Bytes.{of_bytes}
use Rattle.store.specs.Faults.{zero_address}

abbrev pub front_address : List ℕ → Address
front_address bs = cond (nat_lt (length bs) 32) zero_address (of_bytes (take 32 bs))
