-- The words of a string of bytes, eight bytes each.
use Rattle.std.proofs.Common.{◌≡◌, ℕ, ◌+◌, ◌*◌, ◌<◌, List, [], get_or, drop, lit<, ap, add-zero, ◌∙◌}
use Rattle.std.proofs.lemmas.List.{get_or-take, get_or-drop}
use Rattle.std.specs.Simd.{first_chunks}
use Rattle.digest.specs.Bytes.{word_at}
use Rattle.digest.proofs.Blocks.{chunk_at}

byte_of : (bs : List ℕ) (n i j : ℕ) → i < n → j < 8 → get_or (get_or (first_chunks 8 n bs) i []) j 0 ≡ get_or bs (8 * i + j) 0
byte_of bs n i j few small = ap (λ w. get_or w j 0) (chunk_at 8 n bs i [] few) ∙ get_or-take 8 (drop (8 * i) bs) j 0 small ∙ get_or-drop (8 * i) bs j 0

pub word_of : (bs : List ℕ) (n i : ℕ) → i < n → word_at (get_or (first_chunks 8 n bs) i []) 0 ≡ word_at bs (8 * i)
word_of bs n i few =
    let at : (j : ℕ) → j < 8 → get_or (get_or (first_chunks 8 n bs) i []) j 0 ≡ get_or bs (8 * i + j) 0 = λ j. byte_of bs n i j few in
    rw (at 0 (lit< tt) ∙ ap (λ k. get_or bs k 0) (add-zero (8 * i)), at 1 (lit< tt), at 2 (lit< tt), at 3 (lit< tt), at 4 (lit< tt), at 5 (lit< tt), at 6 (lit< tt), at 7 (lit< tt))
