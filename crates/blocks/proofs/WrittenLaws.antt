-- What was written is framed: one block, all blocks, the frame.
use Rattle.std.specs.Prelude.{ℕ, zero, suc, ◌+◌, ◌-◌, ◌*◌, ◌%◌, ◌≤◌, ◌<◌, ◌≡◌, refl, List, [], ◌∷◌, ◌++◌, map, true, eqb, length, take, drop, replicate}
use Rattle.std.proofs.Common.{sym, ap, ap₂, ◌∙◌, append-nil, arith, length-append, length-take, length-drop, take-append-drop, take_at, drop_at, take_all, length-take-le, eqb-true, eq-eqb, le-leb, lt-ltb}
use Rattle.std.specs.Prelude.{Some}
use Rattle.std.proofs.lemmas.List.{length-replicate}
use Rattle.std.proofs.Math.Seq.{take-append-add}
use Rattle.lists.specs.Lists.{all_of, concat_map, map_from, concat_map_from, pieces}
use Rattle.lists.specs.ListLaws.{both, all_take, all_drop, all_append, all_replicate, length_concat_map, length_concat_map_from, length_pieces, pieces_join, pieces_take, pieces_concat_map_from}
use Rattle.blocks.specs.Blocks.{block_bytes, block_words, checked_bytes, most_blocks, edition_word, is_edition, number, check_word}
use Rattle.blocks.specs.Blocks.{checked, block_count, blocks, all_checked, intact_blocks, words, length_word, ends_in_last, intact_words}
use Rattle.blocks.specs.Blocks.{framed, bytes_of, blocks_for, padded, block_of, written, titled}
use Rattle.blocks.specs.ByteLaws.{is_byte, is_word, length_bytes_of, number_bytes_of, bytes_of_number, bytes_of_words, words_of_bytes}
use Rattle.blocks.specs.WordLaws.{words_in, length_words_in}

-- ── one block ──

pub take_replicate : {A : Type 0} (m n : ℕ) (a : A) → m ≤ n → take m (replicate n a) ≡ replicate m a
take_replicate zero n a h = refl
take_replicate (suc m) zero a h = absurd (omega arith)
take_replicate (suc m) (suc n) a h = ap (λ l. a ∷ l) (take_replicate m n a (omega arith))

-- the 127 words of a block that holds fewer
abbrev pub filled : List ℕ → List ℕ
filled ws = take block_words (ws ++ replicate block_words 0)

pub length_filled : (ws : List ℕ) → length (filled ws) ≡ block_words
length_filled ws = length-take-le block_words (ws ++ replicate block_words 0) (omega (arith, length-append ws (replicate block_words 0), length-replicate {A = ℕ} block_words 0))

pub length_padded : (ws : List ℕ) → length (padded ws) ≡ checked_bytes
unfolding padded
length_padded ws = length_concat_map (bytes_of 4) 4 (length_bytes_of 4) (filled ws) ∙ ap (λ n. 4 * n) (length_filled ws)

pub length_block_of : (k : ℕ) (ws : List ℕ) → length (block_of k ws) ≡ block_bytes
unfolding block_of
length_block_of k ws = omega (arith, length-append (padded ws) (bytes_of 4 (check_word k (padded ws))), length_padded ws, length_bytes_of 4 (check_word k (padded ws)))

check_small : (k : ℕ) (bs : List ℕ) → check_word k bs < 65521
unfolding check_word
check_small k bs = omega arith

pub block_of_checked : (k : ℕ) (ws : List ℕ) → checked k (block_of k ws) ≡ true
unfolding checked block_of
block_of_checked k ws =
    let c = check_word k (padded ws) in
    let t : take checked_bytes (padded ws ++ bytes_of 4 c) ≡ padded ws = take_at (padded ws) (bytes_of 4 c) checked_bytes (length_padded ws) in
    let d : drop checked_bytes (padded ws ++ bytes_of 4 c) ≡ bytes_of 4 c = drop_at (padded ws) (bytes_of 4 c) checked_bytes (length_padded ws) in
    eq-eqb _ _ (ap number d ∙ number_bytes_of 4 c (omega (arith, check_small k (padded ws))) ∙ ap (check_word k) (sym t))

pub words_block_of : (k : ℕ) (ws : List ℕ) → all_of is_word ws ≡ true → words_in (block_of k ws) ≡ filled ws
unfolding block_of padded
words_block_of k ws h =
    let c = bytes_of 4 (check_word k (padded ws)) in
    ap (λ n. map number (pieces 4 n (padded ws ++ c))) (sym (length_filled ws))
    ∙ words_of_bytes (filled ws) c (all_take is_word block_words (ws ++ replicate block_words 0) (all_append is_word ws (replicate block_words 0) h (all_replicate is_word block_words 0 refl)))

-- a block that ends with its check word is written by its words
pub block_of_words : (k : ℕ) (block : List ℕ) → length block ≡ block_bytes → all_of is_byte block ≡ true → checked k block ≡ true → block_of k (words_in block) ≡ block
unfolding block_of padded checked
block_of_words k block l h c =
    let front = take checked_bytes block in
    let back = drop checked_bytes block in
    let lf : length front ≡ checked_bytes = length-take-le checked_bytes block (omega arith) in
    let lb : length back ≡ 4 = omega (arith, length-drop checked_bytes block) in
    let f : filled (words_in block) ≡ words_in block = take_at (words_in block) (replicate block_words 0) block_words (length_words_in block) in
    let p : concat_map (bytes_of 4) (filled (words_in block)) ≡ front =
    ap (concat_map (bytes_of 4)) (f ∙ ap (map number) (sym (pieces_take 4 block_words checked_bytes block (omega arith))))
    ∙ bytes_of_words block_words front (all_take is_byte checked_bytes block h) (omega arith)
    ∙ ap (λ n. front ++ replicate (4 * block_words - n) 0) lf
    ∙ append-nil front in
    let b : bytes_of 4 (check_word k front) ≡ back =
    ap (bytes_of 4) (sym (eqb-true (number back) (check_word k front) c) ∙ ap number (sym (take_all 4 back (omega arith))))
    ∙ bytes_of_number 4 back (all_drop is_byte checked_bytes block h)
    ∙ ap₂ (λ x n. x ++ replicate (4 - n) 0) (take_all 4 back (omega arith)) lb
    ∙ append-nil back in
    ap (λ x. x ++ bytes_of 4 (check_word k x)) p ∙ ap (λ x. front ++ x) b ∙ take-append-drop checked_bytes block

-- ── all blocks ──

pub length_written : (ws : List ℕ) → length (written ws) ≡ block_bytes * blocks_for (length ws)
unfolding written
length_written ws =
    length_concat_map_from block_of block_bytes length_block_of 0 (pieces block_words (blocks_for (length ws)) ws)
    ∙ ap (λ n. block_bytes * n) (length_pieces block_words (blocks_for (length ws)) ws)

pub block_count_is : (bytes : List ℕ) (n : ℕ) → length bytes ≡ block_bytes * n → block_count bytes ≡ n
unfolding block_count
block_count_is bytes n e = omega arith

pub blocks_written : (ws : List ℕ) → blocks (written ws) ≡ map_from 0 block_of (pieces block_words (blocks_for (length ws)) ws)
unfolding blocks written
blocks_written ws =
    let n = blocks_for (length ws) in
    let ps = pieces block_words n ws in
    ap (λ k. pieces block_bytes k (concat_map_from 0 block_of ps)) (block_count_is (concat_map_from 0 block_of ps) n (length_written ws) ∙ sym (length_pieces block_words n ws))
    ∙ pieces_concat_map_from block_of block_bytes length_block_of 0 ps

all_block_of : (k : ℕ) (ps : List (List ℕ)) → all_checked k (map_from k block_of ps) ≡ true
unfolding all_checked
all_block_of k [] = refl
all_block_of k (p ∷ ps) = both (block_of_checked k p) (all_block_of (suc k) ps)

-- the words of written blocks, from a block on
words_of_blocks : (k n : ℕ) (ws : List ℕ) → all_of is_word ws ≡ true → concat_map words_in (map_from k block_of (pieces block_words n ws)) ≡ concat_map (λ x. x ++ replicate (block_words - length x) 0) (pieces block_words n ws)
words_of_blocks k zero ws h = refl
words_of_blocks k (suc n) ws h =
    let p = take block_words ws in
    ap₂ ◌++◌ (words_block_of k p (all_take is_word block_words ws h) ∙ fill p (omega (arith, length-take block_words ws)))
    (words_of_blocks (suc k) n (drop block_words ws) (all_drop is_word block_words ws h))
  where
    fill : (p : List ℕ) → length p ≤ block_words → filled p ≡ p ++ replicate (block_words - length p) 0
    fill p l =
        let e : block_words ≡ length p + (block_words - length p) = omega arith in
        ap (λ n. take n (p ++ replicate block_words 0)) e
        ∙ take-append-add p (replicate block_words 0) (block_words - length p)
        ∙ ap (λ x. p ++ x) (take_replicate (block_words - length p) block_words 0 (omega arith))

pub words_written : (ws : List ℕ) → all_of is_word ws ≡ true → words (written ws) ≡ ws ++ replicate (block_words * blocks_for (length ws) - length ws) 0
unfolding words blocks_for
words_written ws h =
    ap (concat_map words_in) (blocks_written ws)
    ∙ words_of_blocks 0 (blocks_for (length ws)) ws h
    ∙ pieces_join block_words (blocks_for (length ws)) ws (omega arith)

-- ── what was written is framed ──

pub titled_length : (e : ℕ) (body : List ℕ) → length (titled e body) ≡ length body + 2
unfolding titled
titled_length e body = omega arith

written_intact : (ws : List ℕ) → 1 ≤ length ws → blocks_for (length ws) ≤ most_blocks → intact_blocks (written ws) ≡ true
unfolding intact_blocks blocks_for
written_intact ws h k =
    let l = length_written ws in
    let c : block_count (written ws) ≡ blocks_for (length ws) = block_count_is (written ws) (blocks_for (length ws)) l in
    both
    (both
    (both (eq-eqb (length (written ws) % block_bytes) 0 (omega arith)) (le-leb 1 (block_count (written ws)) (omega arith)))
    (le-leb (block_count (written ws)) most_blocks (omega arith)))
    (ap (all_checked 0) (blocks_written ws) ∙ all_block_of 0 (pieces block_words (blocks_for (length ws)) ws))

titled_intact : (newest e : ℕ) → is_edition newest e ≡ true → (body : List ℕ) (n : ℕ) → blocks_for (length (titled e body)) ≡ n →
    (zs : List ℕ) → all_of (eqb 0) zs ≡ true →
    intact_words newest n (titled e body ++ zs) ≡ true
unfolding intact_words edition_word length_word ends_in_last titled blocks_for
titled_intact newest e k body n q zs z =
    both
    (both k (both (lt-ltb (block_words * (n - 1)) (length body + 2) (omega arith))
    (le-leb (length body + 2) (block_words * n) (omega arith))))
    (ap (all_of (eqb 0)) (drop_at (e ∷ (length body + 2) ∷ body) zs (length body + 2) (omega arith)) ∙ z)

title_length : (e : ℕ) (body zs : List ℕ) → length_word (titled e body ++ zs) ≡ length (titled e body)
unfolding titled length_word
title_length e body zs = omega arith

-- N of what was written
pub length_word_written : (e : ℕ) (body : List ℕ) → all_of is_word (titled e body) ≡ true →
    length_word (words (written (titled e body))) ≡ length (titled e body)
length_word_written e body h =
    let ws = titled e body in
    ap length_word (words_written ws h) ∙ title_length e body (replicate (block_words * blocks_for (length ws) - length ws) 0)

-- the words that were written, read back
pub framed_written : (newest e : ℕ) → is_edition newest e ≡ true → (body : List ℕ) → all_of is_word (titled e body) ≡ true →
    blocks_for (length (titled e body)) ≤ most_blocks →
    framed newest (written (titled e body)) ≡ Some (titled e body)
unfolding framed
framed_written newest e q body h k =
    let ws = titled e body in
    let n = blocks_for (length ws) in
    let zs : List ℕ = replicate (block_words * n - length ws) 0 in
    let w : words (written ws) ≡ ws ++ zs = words_written ws h in
    let c : block_count (written ws) ≡ n = block_count_is (written ws) n (length_written ws) in
    rw (
      written_intact ws (omega (arith, titled_length e body)) k,
      c,
      w,
      titled_intact newest e q body n refl zs (all_replicate (eqb 0) (block_words * n - length ws) 0 refl),
    )
    (ap Some (take_at ws zs (length_word (ws ++ zs)) (sym (title_length e body zs))))
