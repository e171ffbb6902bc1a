-- The address that a digest gives, by the digest's name in a script.
use Rattle.std.specs.Prelude.{ℕ, List, [], ◌∷◌}
use Rattle.digest.specs.declared.address.Address.{Address}
use Rattle.digest.specs.Fnv.{fnv64_address}
use Rattle.digest.specs.Sha256.{sha256_address}
use Rattle.prolly.specs.declared.command.DigestName.{DigestName}
use Rattle.prolly.specs.declared.command.DigestName.TheVariants.{Sha256, Fnv}

-- `sha256` is SHA-256, and `fnv` is FNV-1a-64 with zeros behind it
abbrev pub named_address : DigestName → List ℕ → Address
named_address Sha256 bs = sha256_address bs
named_address Fnv bs = fnv64_address bs

-- the word of a script that names a digest
abbrev pub word_of : DigestName → List ℕ
word_of Sha256 = 115 ∷ 104 ∷ 97 ∷ 50 ∷ 53 ∷ 54 ∷ []
word_of Fnv = 102 ∷ 110 ∷ 118 ∷ []
