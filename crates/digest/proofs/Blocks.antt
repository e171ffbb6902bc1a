-- Words from bytes, blocks one after the other, and the padding behind the last.
use Rattle.std.proofs.Common.{◌≡◌, ℕ, zero, suc, ◌+◌, ◌-◌, ◌*◌, ◌/◌, ◌%◌, ◌^◌, ◌<◌, ◌≤◌, List, [], ◌∷◌, ◌++◌, length, take, drop, set, replicate, get_or, lit<, mul-zero, mul-suc, sym, refl, ap, ◌∙◌, zero-add, arith}
use Rattle.std.specs.Simd.{first_chunks}
use borrow.Rule.Slice.PartMut.{put_mid}
use Rattle.std.proofs.lemmas.Slice.{take-put_mid}
use Rattle.std.proofs.lemmas.List.{length-replicate, length-append, length-drop, length-set, take_more_set, take_at, drop_all, drop-append-le, take-append-le, append-nil, append_assoc, drop-drop, get_or-take}
use Rattle.digest.specs.declared.sha.functions.Words.{Words}
use Rattle.digest.specs.Bytes.{word_bytes}
use Rattle.digest.specs.Sha256.{big_endian, words_of, blocks, compress, initial, bytes_of_words, closing, padded, PaddingFills, sha256}

pub words_more : (n : ℕ) (bs : List ℕ) → words_of (suc n) bs ≡ words_of n bs ++ big_endian (drop (4 * n) bs) ∷ []
unfolding words_of
words_more zero bs = refl
words_more (suc n) bs =
    let e : 4 + 4 * n ≡ 4 * suc n = omega arith in
    ap (λ l. big_endian bs ∷ l) (words_more n (drop 4 bs) ∙ ap (λ l. words_of n (drop 4 bs) ++ big_endian l ∷ []) (drop-drop (4 * n) 4 bs ∙ ap (λ k. drop k bs) e))

-- the chunk at i, of the first k of n bytes
pub chunk_at : (n k : ℕ) (bs : List ℕ) (i : ℕ) (d : List ℕ) → i < k → get_or (first_chunks n k bs) i d ≡ take n (drop (n * i) bs)
chunk_at n zero bs i d h = absurd (omega arith)
chunk_at n (suc k) bs zero d h = ap (λ j. take n (drop j bs)) (sym (mul-zero n))
chunk_at n (suc k) bs (suc i) d h =
    let e : n + n * i ≡ n * suc i = omega (arith, mul-suc n i) in
    chunk_at n k (drop n bs) i d (omega arith) ∙ ap (take n) (drop-drop (n * i) n bs ∙ ap (λ j. drop j bs) e)

pub four_of : (bs : List ℕ) → big_endian (take 4 bs) ≡ big_endian bs
four_of bs =
    let at : (i : ℕ) → i < 4 → get_or (take 4 bs) i 0 ≡ get_or bs i 0 = λ i h. get_or-take 4 bs i 0 h in
    rw (at 0 (lit< tt), at 1 (lit< tt), at 2 (lit< tt), at 3 (lit< tt))

pub words_length : (n : ℕ) (bs : List ℕ) → length (words_of n bs) ≡ n
unfolding words_of
words_length zero bs = refl
words_length (suc n) bs = ap suc (words_length n (drop 4 bs))

pub blocks_more : (n : ℕ) (bs : List ℕ) (s : Words) → blocks (suc n) bs s ≡ compress (blocks n bs s) (words_of 16 (take 64 (drop (64 * n) bs)))
unfolding blocks
blocks_more zero bs s = refl
blocks_more (suc n) bs s =
    let e : 64 + 64 * n ≡ 64 * suc n = omega arith in
    blocks_more n (drop 64 bs) _ ∙ ap (λ l. compress (blocks (suc n) bs s) (words_of 16 (take 64 l))) (drop-drop (64 * n) 64 bs ∙ ap (λ k. drop k bs) e)

-- what three writes leave: a front, one element, a middle and an end
pub closes : (buf rest mid end : List ℕ) (x k0 k1 k2 : ℕ) →
    length rest + 9 ≤ length buf → k0 ≡ length rest → k1 ≡ length mid → length mid + (length rest + 9) ≡ length buf → length end ≡ 8 →
    let one : List ℕ = set (rest ++ drop k0 buf) (length rest) x in
    let two : List ℕ = put_mid (length rest + 1) k1 one mid in
    k2 ≡ length two - (length buf - 8) →
    put_mid (length buf - 8) k2 two end ≡ rest ++ x ∷ (mid ++ end)
closes buf rest mid end x k0 k1 k2 room e0 e1 em ee e2 =
    let one : List ℕ = set (rest ++ drop k0 buf) (length rest) x in
    let two : List ℕ = put_mid (length rest + 1) k1 one mid in
    let l0 : length (rest ++ drop k0 buf) ≡ length buf = length-append rest (drop k0 buf) ∙ omega (arith, length-drop k0 buf) in
    let l1 : length one ≡ length buf = length-set (rest ++ drop k0 buf) (length rest) x ∙ l0 in
    let front : take (length rest + 1) one ≡ rest ++ x ∷ [] =
    take_more_set (rest ++ drop k0 buf) (length rest) x (omega arith) ∙ ap (λ l. l ++ x ∷ []) (take_at rest (drop k0 buf) (length rest) refl) in
    let most : take (length buf - 8) two ≡ (rest ++ x ∷ []) ++ mid =
    take-put_mid (length rest + 1) k1 one mid (length buf - 8) (omega arith) (omega arith) ∙ ap (λ l. l ++ mid) front in
    let none : drop k2 (drop (length buf - 8) two) ≡ [] = drop_all k2 (drop (length buf - 8) two) (omega (arith, length-drop (length buf - 8) two)) in
    ap (λ l. l ++ (end ++ drop k2 (drop (length buf - 8) two))) most
    ∙ ap (λ l. ((rest ++ x ∷ []) ++ mid) ++ (end ++ l)) none
    ∙ ap (λ l. ((rest ++ x ∷ []) ++ mid) ++ l) (append-nil end)
    ∙ append_assoc (rest ++ x ∷ []) mid end
    ∙ append_assoc rest (x ∷ []) (mid ++ end)

-- the same, where the parts are known by equations
pub closes_by : (buf rest got mid end want : List ℕ) (x z : ℕ) →
    length rest + 9 ≤ length buf → got ≡ rest → mid ≡ replicate z 0 → z ≡ length buf - (length rest + 9) → end ≡ want → length want ≡ 8 →
    let two : List ℕ = put_mid (length rest + 1) (length buf - 8 - (length rest + 1)) (set (got ++ drop (length rest - 0) buf) (length rest) x) mid in
    put_mid (length buf - 8) (length two - (length buf - 8)) two end ≡ rest ++ x ∷ (replicate (length buf - (length rest + 9)) 0 ++ want)
closes_by buf rest got mid end want x z room g m e w l =
    let lm : length mid ≡ z = ap length m ∙ length-replicate z 0 in
    let two : List ℕ → List ℕ = λ r. put_mid (length rest + 1) (length buf - 8 - (length rest + 1)) (set (r ++ drop (length rest - 0) buf) (length rest) x) mid in
    ap (λ r. put_mid (length buf - 8) (length (two r) - (length buf - 8)) (two r) end) g
    ∙ closes buf rest mid end x (length rest - 0) (length buf - 8 - (length rest + 1)) (length (two rest) - (length buf - 8)) room (omega arith) (omega arith) (omega arith) (ap length w ∙ l) refl
    ∙ ap (λ v. rest ++ x ∷ (v ++ end)) (m ∙ ap (λ k. replicate k 0) e)
    ∙ ap (λ v. rest ++ x ∷ (replicate (length buf - (length rest + 9)) 0 ++ v)) w

pub blocks_split : (n k : ℕ) (bs : List ℕ) (s : Words) → blocks (n + k) bs s ≡ blocks k (drop (64 * n) bs) (blocks n bs s)
unfolding blocks
blocks_split zero k bs s = ap (λ j. blocks j bs s) (zero-add k)
blocks_split (suc n) k bs s =
    let e : 64 + 64 * n ≡ 64 * suc n = omega arith in
    let f : suc n + k ≡ suc (n + k) = omega arith in
    ap (λ j. blocks j bs s) f
    ∙ blocks_split n k (drop 64 bs) _
    ∙ ap (λ l. blocks k l (blocks (suc n) bs s)) (drop-drop (64 * n) 64 bs ∙ ap (λ j. drop j bs) e)

pub blocks_front : (n : ℕ) (xs ys : List ℕ) (s : Words) → 64 * n ≤ length xs → blocks n (xs ++ ys) s ≡ blocks n xs s
unfolding blocks
blocks_front zero xs ys s h = refl
blocks_front (suc n) xs ys s h =
    ap (λ l. blocks n l (compress s (words_of 16 (take 64 (xs ++ ys))))) (drop-append-le 64 xs ys (omega arith))
    ∙ blocks_front n (drop 64 xs) ys _ (omega (arith, length-drop 64 xs))
    ∙ ap (λ l. blocks n (drop 64 xs) (compress s (words_of 16 l))) (take-append-le 64 xs ys (omega arith))

padded_length_lem : (bs : List ℕ) → length (padded bs) ≡ length bs + (9 + (119 - length bs % 64) % 64)
unfolding padded
padded_length_lem bs =
    let zeros : ℕ = (119 - length bs % 64) % 64 in
    length-append bs _ ∙ ap (λ n. length bs + suc n) (length-append (replicate zeros 0) (word_bytes (8 * length bs % 2 ^ 64)) ∙ ap (λ n. n + 8) (length-replicate zeros 0)) ∙ omega arith

pub padding_fills_lem : PaddingFills
padding_fills_lem = record { whole = λ bs. omega (arith, padded_length_lem bs); few = λ bs. omega (arith, padded_length_lem bs) }

pub digest_parts : (bs rest : List ℕ) (s : Words) → rest ≡ drop (length bs - length bs % 64) bs → s ≡ blocks (length bs / 64) bs initial →
    bytes_of_words (blocks ((length rest + 72) / 64) (rest ++ closing (length rest) (8 * length bs % 2 ^ 64)) s) ≡ sha256 bs
unfolding sha256 padded
digest_parts bs rest s r h =
    let P : List ℕ = closing (length bs % 64) (8 * length bs % 2 ^ 64) in
    let q : ℕ = length bs / 64 in
    let lr : length rest ≡ length bs % 64 = ap length r ∙ (omega (arith, length-drop (length bs - length bs % 64) bs)) in
    let k : ℕ = (length rest + 72) / 64 in
    let count : length (bs ++ P) / 64 ≡ q + k = omega (arith, padded_length_lem bs) in
    let at : length bs - length bs % 64 ≡ 64 * q = omega arith in
    let back : drop (64 * q) (bs ++ P) ≡ rest ++ P = drop-append-le (64 * q) bs P (omega arith) ∙ ap (λ l. l ++ P) (ap (λ j. drop j bs) (sym at) ∙ sym r) in
    ap bytes_of_words (
    ap (λ n. blocks k (rest ++ closing n (8 * length bs % 2 ^ 64)) s) lr
    ∙ ap (λ l. blocks k l s) (sym back)
    ∙ ap (λ v. blocks k (drop (64 * q) (bs ++ P)) v) (h ∙ sym (blocks_front q bs P initial (omega arith)))
    ∙ sym (blocks_split q k (bs ++ P) initial)
    ∙ ap (λ n. blocks n (bs ++ P) initial) (sym count)
    )

-- what `close` writes is the rest and the padding
pub closed : (b rest : List ℕ) (bits end : ℕ) (s : Words) → length rest < 64 → end ≡ (length rest + 72) / 64 * 64 →
    b ≡ rest ++ 128 ∷ (replicate (end - (length rest + 9)) 0 ++ word_bytes bits) →
    blocks (length b / 64) b s ≡ blocks ((length rest + 72) / 64) (rest ++ closing (length rest) bits) s
closed b rest bits end s h e is =
    let zeros : ℕ = end - (length rest + 9) in
    let z : zeros ≡ (119 - length rest) % 64 = omega arith in
    let l : length b ≡ length rest + suc (zeros + 8) =
    ap length is ∙ length-append rest _ ∙ ap (λ n. length rest + suc n) (length-append (replicate zeros 0) (word_bytes bits) ∙ ap (λ n. n + 8) (length-replicate zeros 0)) in
    let k : length b / 64 ≡ (length rest + 72) / 64 = omega arith in
    ap (λ j. blocks j b s) k ∙ ap (λ l. blocks ((length rest + 72) / 64) l s) (is ∙ ap (λ j. rest ++ 128 ∷ (replicate j 0 ++ word_bytes bits)) z)

pub digest_by : (bs rest : List ℕ) (bits : ℕ) (s t : Words) → rest ≡ drop (length bs - length bs % 64) bs → bits ≡ 8 * length bs % 2 ^ 64 → s ≡ blocks (length bs / 64) bs initial →
    t ≡ blocks ((length rest + 72) / 64) (rest ++ closing (length rest) bits) s → bytes_of_words t ≡ sha256 bs
digest_by bs rest bits s t r b h e =
    ap bytes_of_words (e ∙ ap (λ n. blocks ((length rest + 72) / 64) (rest ++ closing (length rest) n) s) b) ∙ digest_parts bs rest s r h
