-- SHA-256 of FIPS 180-4, over lists of numbers: a byte is below 2 ^ 8, a word below 2 ^ 32.
use Rattle.std.specs.Prelude.{◌≡◌, ℕ, zero, suc, ◌+◌, ◌-◌, ◌*◌, ◌/◌, ◌%◌, ◌^◌, ◌<◌, List, [], ◌∷◌, ◌++◌, length, take, drop, replicate, bit_and, bit_or, bit_xor, slice_index}
use Rattle.digest.specs.declared.address.Address.{Address}
use Rattle.digest.specs.declared.sha.functions.Words.{Words}
use Rattle.digest.specs.Bytes.{word_bytes, of_bytes}

-- 2.2.2, 3.2: addition modulo 2 ^ 32, and the rotation to the right
abbrev pub add : ℕ → ℕ → ℕ
add x y = (x + y) % 2 ^ 32

abbrev pub rotr : ℕ → ℕ → ℕ
rotr n x = bit_or (x / 2 ^ n) ((x * 2 ^ (32 - n)) % 2 ^ 32)

-- 4.1.2: the six functions
abbrev pub ch : ℕ → ℕ → ℕ → ℕ
ch x y z = bit_xor (bit_and x y) (bit_and (2 ^ 32 - 1 - x) z)

abbrev pub maj : ℕ → ℕ → ℕ → ℕ
maj x y z = bit_xor (bit_xor (bit_and x y) (bit_and x z)) (bit_and y z)

abbrev pub Σ0 : ℕ → ℕ
Σ0 x = bit_xor (bit_xor (rotr 2 x) (rotr 13 x)) (rotr 22 x)

abbrev pub Σ1 : ℕ → ℕ
Σ1 x = bit_xor (bit_xor (rotr 6 x) (rotr 11 x)) (rotr 25 x)

abbrev pub σ0 : ℕ → ℕ
σ0 x = bit_xor (bit_xor (rotr 7 x) (rotr 18 x)) (x / 2 ^ 3)

abbrev pub σ1 : ℕ → ℕ
σ1 x = bit_xor (bit_xor (rotr 17 x) (rotr 19 x)) (x / 2 ^ 10)

-- 6.2.2, step 3: T1 and T2 of a round, at the constant k and the schedule word w
abbrev pub t1 : ℕ → ℕ → Words → ℕ
t1 k w s = add (add (add (add s.h (Σ1 s.e)) (ch s.e s.f s.g)) k) w

abbrev pub t2 : Words → ℕ
t2 s = add (Σ0 s.a) (maj s.a s.b s.c)

-- one round
unfoldable pub round : ℕ → ℕ → Words → Words
round k w s = record { a = add (t1 k w s) (t2 s); b = s.a; c = s.b; d = s.c; e = add s.d (t1 k w s); f = s.e; g = s.f; h = s.g }

-- 4.2.2: the constants of the 64 rounds
unfoldable pub constants : List ℕ
constants =
    0x428a2f98 ∷ 0x71374491 ∷ 0xb5c0fbcf ∷ 0xe9b5dba5 ∷ 0x3956c25b ∷ 0x59f111f1 ∷ 0x923f82a4 ∷ 0xab1c5ed5 ∷
    0xd807aa98 ∷ 0x12835b01 ∷ 0x243185be ∷ 0x550c7dc3 ∷ 0x72be5d74 ∷ 0x80deb1fe ∷ 0x9bdc06a7 ∷ 0xc19bf174 ∷
    0xe49b69c1 ∷ 0xefbe4786 ∷ 0x0fc19dc6 ∷ 0x240ca1cc ∷ 0x2de92c6f ∷ 0x4a7484aa ∷ 0x5cb0a9dc ∷ 0x76f988da ∷
    0x983e5152 ∷ 0xa831c66d ∷ 0xb00327c8 ∷ 0xbf597fc7 ∷ 0xc6e00bf3 ∷ 0xd5a79147 ∷ 0x06ca6351 ∷ 0x14292967 ∷
    0x27b70a85 ∷ 0x2e1b2138 ∷ 0x4d2c6dfc ∷ 0x53380d13 ∷ 0x650a7354 ∷ 0x766a0abb ∷ 0x81c2c92e ∷ 0x92722c85 ∷
    0xa2bfe8a1 ∷ 0xa81a664b ∷ 0xc24b8b70 ∷ 0xc76c51a3 ∷ 0xd192e819 ∷ 0xd6990624 ∷ 0xf40e3585 ∷ 0x106aa070 ∷
    0x19a4c116 ∷ 0x1e376c08 ∷ 0x2748774c ∷ 0x34b0bcb5 ∷ 0x391c0cb3 ∷ 0x4ed8aa4a ∷ 0x5b9cca4f ∷ 0x682e6ff3 ∷
    0x748f82ee ∷ 0x78a5636f ∷ 0x84c87814 ∷ 0x8cc70208 ∷ 0x90befffa ∷ 0xa4506ceb ∷ 0xbef9a3f7 ∷ 0xc67178f2 ∷ []

-- 6.2.2, step 1: a later word of the schedule, from those 2, 7, 15 and 16 places before it
unfoldable pub next_word : ℕ → ℕ → ℕ → ℕ → ℕ
next_word back2 back7 back15 back16 = add (add (add (σ1 back2) back7) (σ0 back15)) back16

-- the first 16 + n words of the schedule, from the block's own sixteen
unfoldable pub schedule : List ℕ → ℕ → List ℕ
schedule m zero = m
schedule m (suc n) =
    let w : List ℕ = schedule m n in
    w ++ next_word (slice_index w (n + 14)) (slice_index w (n + 9)) (slice_index w (n + 1)) (slice_index w n) ∷ []

-- the schedule word of round t, from 0
abbrev pub word : List ℕ → ℕ → ℕ
word m t = slice_index (schedule m 48) t

-- 6.2.2, step 3: the working words after t rounds
unfoldable pub after : List ℕ → ℕ → Words → Words
after m zero s = s
after m (suc t) s = round (slice_index constants t) (word m t) (after m t s)

-- 6.2.2, step 4
unfoldable pub plus : Words → Words → Words
plus s t =
    record {
      a = add s.a t.a;
      b = add s.b t.b;
      c = add s.c t.c;
      d = add s.d t.d;
      e = add s.e t.e;
      f = add s.f t.f;
      g = add s.g t.g;
      h = add s.h t.h;
    }

unfoldable pub compress : Words → List ℕ → Words
compress s m = plus s (after m 64 s)

-- 5.2.1: n words, the highest byte of each first
abbrev pub big_endian : List ℕ → ℕ
big_endian bs = slice_index bs 0 * 2 ^ 24 + slice_index bs 1 * 2 ^ 16 + slice_index bs 2 * 2 ^ 8 + slice_index bs 3

unfoldable pub words_of : ℕ → List ℕ → List ℕ
words_of zero bs = []
words_of (suc n) bs = big_endian bs ∷ words_of n (drop 4 bs)

-- 6.2.2: n blocks of 64 bytes, one after the other
unfoldable pub blocks : ℕ → List ℕ → Words → Words
blocks zero bs s = s
blocks (suc n) bs s = blocks n (drop 64 bs) (compress s (words_of 16 (take 64 bs)))

-- 5.3.3
unfoldable pub initial : Words
initial =
    record {
      a = 0x6a09e667;
      b = 0xbb67ae85;
      c = 0x3c6ef372;
      d = 0xa54ff53a;
      e = 0x510e527f;
      f = 0x9b05688c;
      g = 0x1f83d9ab;
      h = 0x5be0cd19;
    }

abbrev pub bytes4 : ℕ → List ℕ
bytes4 x = (x / 2 ^ 24 % 256) ∷ (x / 2 ^ 16 % 256) ∷ (x / 2 ^ 8 % 256) ∷ (x % 256) ∷ []

-- 5.1.1: one bit, the fewest zeros with which whole blocks come out, and the length in bits, modulo 2 ^ 64
abbrev pub closing : ℕ → ℕ → List ℕ
closing n bits = 128 ∷ (replicate ((119 - n) % 64) 0 ++ word_bytes bits)

unfoldable pub padded : List ℕ → List ℕ
padded bs = bs ++ closing (length bs % 64) (8 * length bs % 2 ^ 64)

-- the padding fills whole blocks, with fewer than 64 zeros
pub record PaddingFills : Type 0 where
  pub whole : (bs : List ℕ) → length (padded bs) % 64 ≡ 0
  pub few : (bs : List ℕ) → length (padded bs) < length bs + 9 + 64

abbrev pub bytes_of_words : Words → List ℕ
bytes_of_words s = bytes4 s.a ++ (bytes4 s.b ++ (bytes4 s.c ++ (bytes4 s.d ++ (bytes4 s.e ++ (bytes4 s.f ++ (bytes4 s.g ++ bytes4 s.h))))))

-- 6.2
unfoldable pub sha256 : List ℕ → List ℕ
sha256 bs = bytes_of_words (blocks (length (padded bs) / 64) (padded bs) initial)

-- the digest as an address
unfoldable pub sha256_address : List ℕ → Address
sha256_address bs = of_bytes (sha256 bs)
