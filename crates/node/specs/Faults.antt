-- What the tree's refusals say: a number, the address of a chunk, and the parts that they passed.
use Rattle.std.specs.Prelude.{ℕ, List, [], ◌∷◌, ◌++◌}
use Rattle.digest.specs.declared.address.Address.{Address}
use Rattle.store.specs.Faults.{zero_address, number_of, address_of, path_of}
use Rattle.store.specs.declared.fault.Part.{Part}
use Rattle.store.specs.declared.fault.Part.TheVariants.{Tree}
use Rattle.node.specs.declared.fault.TreeFault.{TreeFault}
use Rattle.node.specs.declared.fault.TreeFault.TheVariants.{Store, Malformed, Unordered, Full, Memory}

-- the store's own number; 33 is bytes or entries that are not well-formed, 17 an entry too many, 8 want of memory
abbrev pub tree_number : TreeFault → ℕ
tree_number (Store f) = number_of f
tree_number Malformed = 33
tree_number Unordered = 33
tree_number Full = 17
tree_number Memory = 8

-- the address that the store's fault has, else zero
abbrev pub tree_address : TreeFault → Address
tree_address (Store f) = address_of f
tree_address Malformed = zero_address
tree_address Unordered = zero_address
tree_address Full = zero_address
tree_address Memory = zero_address

-- a store's fault has passed the tree; the others start there
abbrev pub tree_path : TreeFault → List Part
tree_path (Store f) = path_of f ++ Tree ∷ []
tree_path Malformed = Tree ∷ []
tree_path Unordered = Tree ∷ []
tree_path Full = Tree ∷ []
tree_path Memory = Tree ∷ []
