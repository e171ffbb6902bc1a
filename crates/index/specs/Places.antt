-- What an index of addresses means.
use Rattle.std.specs.Prelude.{◌≡◌, ℕ, zero, suc, cond, List, length, Some, None, Option, slice_index_or}
use Rattle.std.specs.HashMap.{HashMap, get}
use Rattle.digest.specs.declared.address.Address.{Address}
use Rattle.digest.specs.Bytes.{same_address}

abbrev pub key : List Address → ℕ → Address
key ks p = slice_index_or ks p (record { w0 = 0; w1 = 0; w2 = 0; w3 = 0 })

-- the newest place of an address among the first k
abbrev pub newest : List Address → Address → ℕ → Option ℕ
newest ks a zero = None
newest ks a (suc k) = cond (same_address (key ks k) a) (Some k) (newest ks a k)

-- the newest place of an address: the meaning of an index whose addresses were inserted in the order ks
abbrev pub place : List Address → Address → Option ℕ
place ks a = newest ks a (length ks)

-- the map has the newest place of each address
abbrev pub Newest : {S : Type 0} → List Address → HashMap Address ℕ S → Type 0
Newest ks places = (a : Address) → get same_address places a ≡ place ks a
