-- What a store's refusals say: a number, the address of a chunk, and the parts that they passed.
use Rattle.std.specs.Prelude.{ℕ, List, [], ◌∷◌}
use Rattle.digest.specs.declared.address.Address.{Address}
use Rattle.store.specs.declared.fault.Part.{Part}
use Rattle.store.specs.declared.fault.Part.TheVariants.{Store}
use Rattle.store.specs.declared.fault.StoreFault.{StoreFault}
use Rattle.store.specs.declared.fault.StoreFault.TheVariants.{TooLong, Collision, Bad, NoRoom, Absent, Short, Stale, Memory}

abbrev pub zero_address : Address
zero_address = record { w0 = 0; w1 = 0; w2 = 0; w3 = 0 }

-- 1 to 7 are the store's own refusals, 8 is want of memory
abbrev pub number_of : StoreFault → ℕ
number_of TooLong = 1
number_of (Collision a) = 2
number_of (Bad a) = 3
number_of (NoRoom a) = 4
number_of (Absent a) = 5
number_of (Short a) = 6
number_of Stale = 7
number_of Memory = 8

-- the address of the chunk that was refused, or zero where there is none
abbrev pub address_of : StoreFault → Address
address_of TooLong = zero_address
address_of (Collision a) = a
address_of (Bad a) = a
address_of (NoRoom a) = a
address_of (Absent a) = a
address_of (Short a) = a
address_of Stale = zero_address
address_of Memory = zero_address

-- a store's fault starts at the store and has passed nothing else
abbrev pub path_of : StoreFault → List Part
path_of f = Store ∷ []
