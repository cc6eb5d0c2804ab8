-- For code that reads or writes blocks: check sums step by step, blocks and bytes by number.
use Rattle.std.specs.Prelude.{ℕ, zero, suc, ◌+◌, ◌*◌, ◌≤◌, ◌<◌, ◌≡◌, refl, List, [], ◌∷◌, ◌++◌, true, length, get_or, take, drop, replicate}
use Rattle.std.proofs.Common.{sym, ap, ap₂, ◌∙◌, arith, zero-add, add-zero, mul-le-mul_left, take-suc, length-take-le, get_or-take, ltb-true}
use Rattle.std.proofs.Math.ListN.{get_or-append}
use Rattle.lists.specs.Lists.{all_of, map_from, pieces}
use Rattle.lists.specs.ListLaws.{and_first, and_second, length_pieces, get_d_pieces, get_d_concat_map}
use Rattle.blocks.specs.Blocks.{block_bytes, block_words, weighed, check_word, block_count, blocks, bytes_of, blocks_for, padded, block_of, written}
use Rattle.blocks.specs.ByteLaws.{is_byte, length_bytes_of}
use Rattle.blocks.proofs.WrittenLaws.{filled, length_filled, length_padded, length_written, block_count_is, blocks_written}

pub weighed_append : (i : ℕ) (xs ys : List ℕ) → weighed i (xs ++ ys) ≡ weighed i xs + weighed (i + length xs) ys
unfolding weighed
weighed_append i [] ys = let e : i ≡ i + 0 = omega arith in ap (λ k. weighed k ys) e ∙ sym (zero-add (weighed (i + 0) ys))
weighed_append i (x ∷ xs) ys =
    let e : suc i + length xs ≡ i + suc (length xs) = omega arith in
    omega (arith, weighed_append (suc i) xs ys, ap (λ k. weighed k ys) e)

-- the byte at j, of a sum that has come to j
pub weighed_step : (i : ℕ) (bs : List ℕ) (j : ℕ) → j < length bs → weighed i (take (suc j) bs) ≡ weighed i (take j bs) + (i + j) * get_or bs j 0
unfolding weighed
weighed_step i bs j h =
    let l : length (take j bs) ≡ j = length-take-le j bs (omega arith) in
    ap (weighed i) (take-suc bs j 0 h)
    ∙ weighed_append i (take j bs) (get_or bs j 0 ∷ [])
    ∙ ap (λ k. weighed i (take j bs) + weighed (i + k) (get_or bs j 0 ∷ [])) l
    ∙ ap (λ k. weighed i (take j bs) + k) (add-zero ((i + j) * get_or bs j 0))

-- a sum that no 64 bits overflow
pub weighed_small : (i : ℕ) (bs : List ℕ) → all_of is_byte bs ≡ true → weighed i bs ≤ 255 * ((i + length bs) * length bs)
unfolding weighed
weighed_small i [] h = omega arith
weighed_small i (b ∷ bs) h =
    let k : b ≤ 255 = byte_below b (and_first (is_byte b) (all_of is_byte bs) h) in
    omega (arith, weighed_small (suc i) bs (and_second (is_byte b) (all_of is_byte bs) h), mul-le-mul_left i k)
  where
    byte_below : (b : ℕ) → is_byte b ≡ true → b ≤ 255
    byte_below b h = omega (arith, ltb-true b 256 h)

-- block i of what is written
pub written_block : (ws : List ℕ) (i : ℕ) → i < blocks_for (length ws) → take block_bytes (drop (block_bytes * i) (written ws)) ≡ block_of i (take block_words (drop (block_words * i) ws))
unfolding blocks
written_block ws i h =
    let n = blocks_for (length ws) in
    let c : block_count (written ws) ≡ n = block_count_is (written ws) n (length_written ws) in
    sym (get_d_pieces block_bytes (block_count (written ws)) i (written ws) (omega arith))
    ∙ ap (λ l. get_or l i []) (blocks_written ws)
    ∙ get_d_map_from_lem block_of 0 (pieces block_words n ws) i [] [] (omega (arith, length_pieces block_words n ws))
    ∙ ap₂ block_of (zero-add i) (get_d_pieces block_words n i ws h)
  where
    get_d_map_from_lem : {A B : Type 0} (f : ℕ → A → B) (k : ℕ) (xs : List A) (i : ℕ) (a : A) (b : B) → i < length xs → get_or (map_from k f xs) i b ≡ f (k + i) (get_or xs i a)
    get_d_map_from_lem f k [] i a b h = absurd (omega arith)
    get_d_map_from_lem f k (x ∷ xs) zero a b h = let e : k ≡ k + 0 = omega arith in ap (λ n. f n x) e
    get_d_map_from_lem f k (x ∷ xs) (suc i) a b h =
        let e : suc k + i ≡ k + suc i = omega arith in get_d_map_from_lem f (suc k) xs i a b (omega arith) ∙ ap (λ n. f n (get_or xs i a)) e

-- zeros at the end are what is read past it
pub get_d_zeros : (ws : List ℕ) (n j : ℕ) → get_or (ws ++ replicate n 0) j 0 ≡ get_or ws j 0
get_d_zeros [] zero j = refl
get_d_zeros [] (suc n) zero = refl
get_d_zeros [] (suc n) (suc j) = get_d_zeros [] n j
get_d_zeros (w ∷ ws) n zero = refl
get_d_zeros (w ∷ ws) n (suc j) = get_d_zeros ws n j

-- byte m of word j of a block
pub block_of_byte : (k : ℕ) (ws : List ℕ) (j m : ℕ) → j < 127 → m < 4 → get_or (block_of k ws) (4 * j + m) 0 ≡ get_or (bytes_of 4 (get_or ws j 0)) m 0
unfolding block_of padded
block_of_byte k ws j m h l =
    get_or-append (padded ws) (bytes_of 4 (check_word k (padded ws))) 0 (4 * j + m) (omega (arith, length_padded ws))
    ∙ get_d_concat_map (bytes_of 4) 4 (length_bytes_of 4) (filled ws) j m 0 0 (omega (arith, length_filled ws)) l
    ∙ ap (λ w. get_or (bytes_of 4 w) m 0) (get_or-take block_words (ws ++ replicate block_words 0) j 0 h ∙ get_d_zeros ws block_words j)
