-- Each word by its bytes.
use Rattle.std.specs.Prelude.{ℕ, ◌+◌, ◌*◌, ◌/◌, ◌%◌, ◌<◌, ◌≡◌, refl, List, [], ◌∷◌, map, length, get_or, take, drop}
use Rattle.std.proofs.Common.{ap, ◌∙◌, arith, get_or-take, get_or-drop}
use Rattle.std.proofs.lemmas.List.{length-map}
use Rattle.std.proofs.Math.ListN.{get_or-map}
use Rattle.lists.specs.Lists.{pieces}
use Rattle.lists.specs.ListLaws.{length_concat_map, length_pieces, get_d_pieces, get_d_concat_map}
use Rattle.blocks.specs.Blocks.{block_bytes, block_words, number, block_count, blocks, words}

-- the words of a block
abbrev pub words_in : List ℕ → List ℕ
words_in block = map number (pieces 4 block_words block)

pub length_words_in : (block : List ℕ) → length (words_in block) ≡ block_words
length_words_in block = length-map (pieces 4 block_words block) number ∙ length_pieces 4 block_words block

pub length_words : (bytes : List ℕ) → length (words bytes) ≡ block_words * block_count bytes
unfolding words blocks
length_words bytes =
    length_concat_map words_in block_words length_words_in (pieces block_bytes (block_count bytes) bytes)
    ∙ ap (λ n. block_words * n) (length_pieces block_bytes (block_count bytes) bytes)

pub number_four : (bs : List ℕ) → number (take 4 bs) ≡ get_or bs 0 0 + 256 * (get_or bs 1 0 + 256 * (get_or bs 2 0 + 256 * get_or bs 3 0))
unfolding number
number_four [] = refl
number_four (a ∷ []) = refl
number_four (a ∷ b ∷ []) = refl
number_four (a ∷ b ∷ c ∷ []) = refl
number_four (a ∷ b ∷ c ∷ d ∷ bs) = omega arith

-- the byte where word k begins
abbrev pub byte_of : ℕ → ℕ
byte_of k = 512 * (k / 127) + 4 * (k % 127)

abbrev pub word_at : List ℕ → ℕ → ℕ
word_at bytes i = get_or bytes i 0 + 256 * (get_or bytes (i + 1) 0 + 256 * (get_or bytes (i + 2) 0 + 256 * get_or bytes (i + 3) 0))

get_d_words_in : (block : List ℕ) (j : ℕ) → j < 127 → get_or (words_in block) j 0 ≡ number (take 4 (drop (4 * j) block))
unfolding number
get_d_words_in block j h = get_or-map number (pieces 4 127 block) j [] ∙ ap number (get_d_pieces 4 127 j block h)

-- word j of block i
word_in : (bytes : List ℕ) (i j : ℕ) → i < block_count bytes → j < 127 → get_or (words bytes) (127 * i + j) 0 ≡ word_at bytes (512 * i + 4 * j)
unfolding words blocks
word_in bytes i j h k =
    let ps = pieces block_bytes (block_count bytes) bytes in
    let b = take 512 (drop (512 * i) bytes) in
    get_d_concat_map words_in 127 length_words_in ps i j [] 0 (omega (arith, length_pieces block_bytes (block_count bytes) bytes)) k
    ∙ ap (λ x. get_or (words_in x) j 0) (get_d_pieces block_bytes (block_count bytes) i bytes h)
    ∙ get_d_words_in b j k
    ∙ number_four (drop (4 * j) b)
    ∙ go b refl
  where
    byte : (m : ℕ) → m < 4 → get_or (drop (4 * j) (take 512 (drop (512 * i) bytes))) m 0 ≡ get_or bytes (512 * i + 4 * j + m) 0
    byte m l =
        let e : 512 * i + (4 * j + m) ≡ 512 * i + 4 * j + m = omega arith in
        get_or-drop (4 * j) (take 512 (drop (512 * i) bytes)) m 0
        ∙ get_or-take 512 (drop (512 * i) bytes) (4 * j + m) 0 (omega arith)
        ∙ get_or-drop (512 * i) bytes (4 * j + m) 0
        ∙ ap (λ n. get_or bytes n 0) e

    byte₀ : get_or (drop (4 * j) (take 512 (drop (512 * i) bytes))) 0 0 ≡ get_or bytes (512 * i + 4 * j) 0
    byte₀ = let e : 512 * i + 4 * j + 0 ≡ 512 * i + 4 * j = omega arith in byte 0 (omega arith) ∙ ap (λ n. get_or bytes n 0) e

    go : (b : List ℕ) → take 512 (drop (512 * i) bytes) ≡ b
        → get_or (drop (4 * j) b) 0 0 + 256 * (get_or (drop (4 * j) b) 1 0 + 256 * (get_or (drop (4 * j) b) 2 0 + 256 * get_or (drop (4 * j) b) 3 0)) ≡ word_at bytes (512 * i + 4 * j)
    go b e = rw (← e) (rw (byte₀, byte 1 (omega arith), byte 2 (omega arith), byte 3 (omega arith)))

pub word_bytes_at : (bytes : List ℕ) (k : ℕ) → k < block_words * block_count bytes → get_or (words bytes) k 0 ≡ word_at bytes (byte_of k)
word_bytes_at bytes k h =
    let e : k ≡ 127 * (k / 127) + k % 127 = omega arith in
    ap (λ n. get_or (words bytes) n 0) e ∙ word_in bytes (k / 127) (k % 127) (omega arith) (omega arith)
