-- The bytes written to a chunk's buffer.
use Rattle.std.specs.Prelude.{ℕ, List, take}
use Rattle.node.specs.declared.chunk.Chunk.{Chunk}

-- the bytes up to its length
abbrev pub written : Chunk → List ℕ
written c = take c.len c.bytes
