-- Every digest fills 32 bytes and no more: its words fit 64 bits.
use Rattle.std.specs.Prelude.{ℕ, ◌+◌, ◌*◌, ◌/◌, ◌%◌, ◌^◌, ◌<◌, List, [], ◌∷◌, length, fold, bit_xor}
use Rattle.std.proofs.Common.{arith}
use Rattle.digest.specs.declared.sha.functions.Words.{Words}
use Rattle.digest.specs.Bytes.{of_bytes, Whole}
use Rattle.digest.specs.Fnv.{fnv, fnv_step, fnv64_address}
use Rattle.digest.specs.Sha256.{initial, blocks, padded, bytes_of_words, sha256, sha256_address}

folds_fit : (factor h : ℕ) (bs : List ℕ) → h < 2 ^ 64 → fold (fnv_step 64 factor) h bs < 2 ^ 64
folds_fit factor h [] below = below
folds_fit factor h (b ∷ bs) below =
    let x : ℕ = bit_xor h b * factor in
    let l : x % 2 ^ 64 < 2 ^ 64 = omega arith in
    folds_fit factor (x % 2 ^ 64) bs l

pub fnv64_whole : (b : List ℕ) → Whole (fnv64_address b)
unfolding fnv
fnv64_whole b = (folds_fit 0x00000100000001b3 0xcbf29ce484222325 b (omega arith), omega arith, omega arith, omega arith)

words_fit : (x y : ℕ) → x / 16777216 % 256 * 72057594037927936 + x / 65536 % 256 * 281474976710656 + x / 256 % 256 * 1099511627776 + x % 256 * 4294967296 + y / 16777216 % 256 * 16777216 + y / 65536 % 256 * 65536 + y / 256 % 256 * 256 + y % 256 < 2 ^ 64
words_fit x y = omega arith

words_whole : (s : Words) → Whole (of_bytes (bytes_of_words s))
words_whole s = (words_fit s.a s.b, words_fit s.c s.d, words_fit s.e s.f, words_fit s.g s.h)

pub sha256_whole : (b : List ℕ) → Whole (sha256_address b)
unfolding sha256_address sha256
sha256_whole b = words_whole (blocks (length (padded b) / 64) (padded b) initial)
