-- What is framed was written.
use Rattle.std.specs.Prelude.{ℕ, zero, suc, ◌+◌, ◌-◌, ◌*◌, ◌%◌, ◌≤◌, ◌<◌, ◌≡◌, List, [], ◌∷◌, ◌++◌, map, true, false, cond, ◌&&◌, eqb, leb, ltb, length, get_or, take, drop, replicate}
use Rattle.std.proofs.Math.Path.{refl, ap}
use Rattle.std.proofs.Common.{sym, ap₂, ◌∙◌, length-take, length-drop, take-append-drop, length-take-le, eqb-true, leb-true, ltb-true, eq-eqb, le-leb, lt-ltb}
use Rattle.std.proofs.Math.Bool.{and-false}
use Rattle.std.specs.Prelude.{None, Some}
use native.Mathlib.Omega.{arith}
use Rattle.std.proofs.Math.Seq.{take-nil}
use Rattle.lists.specs.Lists.{all_of, concat_map, concat_map_from, pieces}
use Rattle.lists.specs.ListLaws.{and_first, and_second, cond_inv, all_from, all_take, all_drop, all_append, length_pieces, drop_take, pieces_concat_map}
use Rattle.blocks.specs.Blocks.{block_bytes, block_words, most_blocks, edition_word, is_edition, check_word, checked, block_count}
use Rattle.blocks.specs.Blocks.{blocks, all_checked, intact_blocks, words, length_word, ends_in_last, intact_words, framed, bytes_of}
use Rattle.blocks.specs.Blocks.{blocks_for, padded, block_of, written, titled}
use Rattle.blocks.specs.ByteLaws.{is_byte, is_word, bytes_of_bytes, zeros_drop}
use Rattle.blocks.specs.WordLaws.{words_in, length_words_in, length_words, byte_of, word_bytes_at}
use Rattle.blocks.proofs.WrittenLaws.{take_replicate, filled, block_of_words}

pub byte_small : (bytes : List ℕ) → all_of is_byte bytes ≡ true → (i : ℕ) → get_or bytes i 0 < 256
byte_small [] h i = omega arith
byte_small (b ∷ bs) h zero = ltb-true b 256 (and_first (is_byte b) (all_of is_byte bs) h)
byte_small (b ∷ bs) h (suc i) = byte_small bs (and_second (is_byte b) (all_of is_byte bs) h) i

pub words_small : (bytes : List ℕ) → all_of is_byte bytes ≡ true → all_of is_word (words bytes) ≡ true
words_small bytes h =
    all_from is_word (words bytes) 0 λ i k.
    let j = byte_of i in
    let e = word_bytes_at bytes i (omega (arith, length_words bytes)) in
    lt-ltb (get_or (words bytes) i 0) 4294967296 (omega (arith, e, byte_small bytes h j, byte_small bytes h (j + 1), byte_small bytes h (j + 2), byte_small bytes h (j + 3)))

-- all zeros, filled up
zeros_filled : (m r : ℕ) (xs : List ℕ) → m ≤ r → all_of (eqb 0) xs ≡ true → take m (take m xs ++ replicate r 0) ≡ replicate m 0
zeros_filled zero r xs h z = refl
zeros_filled (suc m) r [] h z = take_replicate (suc m) r 0 h
zeros_filled (suc m) r (x ∷ xs) h z =
    let e : 0 ≡ x = eqb-true 0 x (and_first (eqb 0 x) (all_of (eqb 0) xs) z) in
    ap₂ ◌∷◌ (sym e) (zeros_filled m r xs (omega arith) (and_second (eqb 0 x) (all_of (eqb 0) xs) z))

fill_cut : (m n r : ℕ) (xs : List ℕ) → m ≤ r → all_of (eqb 0) (drop n xs) ≡ true → take m (take m (take n xs) ++ replicate r 0) ≡ take m (take m xs ++ replicate r 0)
fill_cut m zero r xs h z = ap (λ l. take m (l ++ replicate r 0)) (take-nil m) ∙ take_replicate m r 0 h ∙ sym (zeros_filled m r xs h z)
fill_cut m (suc n) r [] h z = refl
fill_cut zero (suc n) r (x ∷ xs) h z = refl
fill_cut (suc m) (suc n) r (x ∷ xs) h z = ap (λ l. x ∷ l) (fill_cut m n r xs (omega arith) z)

-- zeros at the end are not written
blocks_cut : (k j n : ℕ) (xs : List ℕ) → all_of (eqb 0) (drop n xs) ≡ true
    → concat_map_from k block_of (pieces block_words j (take n xs)) ≡ concat_map_from k block_of (pieces block_words j xs)
unfolding block_of padded
blocks_cut k zero n xs z = refl
blocks_cut k (suc j) n xs z =
    ap₂ ◌++◌
    (ap (λ l. concat_map (bytes_of 4) l ++ bytes_of 4 (check_word k (concat_map (bytes_of 4) l))) (fill_cut block_words n block_words xs (omega arith) z))
    (ap (λ l. concat_map_from (suc k) block_of (pieces block_words j l)) (drop_take block_words n xs) ∙ blocks_cut (suc k) j (n - block_words) (drop block_words xs) (zeros_drop block_words n xs z))

reblocked : (n k : ℕ) (bytes : List ℕ) → length bytes ≡ block_bytes * n → all_of is_byte bytes ≡ true → all_checked k (pieces block_bytes n bytes) ≡ true
    → concat_map_from k block_of (map words_in (pieces block_bytes n bytes)) ≡ bytes
unfolding all_checked
reblocked zero k [] l h c = refl
reblocked zero k (b ∷ bs) l h c = absurd (omega arith)
reblocked (suc n) k bytes l h c =
    let block = take block_bytes bytes in
    let rest = drop block_bytes bytes in
    let t = all_checked (suc k) (pieces block_bytes n rest) in
    ap₂ ◌++◌
    (block_of_words k block (length-take-le block_bytes bytes (omega arith)) (all_take is_byte block_bytes bytes h) (and_first (checked k block) t c))
    (reblocked n (suc k) rest (omega (arith, length-drop block_bytes bytes)) (all_drop is_byte block_bytes bytes h) (and_second (checked k block) t c))
    ∙ take-append-drop block_bytes bytes

pub edition_range : (newest e : ℕ) → is_edition newest e ≡ true → (1 ≤ e) × (e ≤ newest)
unfolding is_edition
edition_range newest e h =
    (leb-true 1 e (and_first (leb 1 e) (leb e newest) h), leb-true e newest (and_second (leb 1 e) (leb e newest) h))

-- the tests of framed bytes, one by one
pub record Intact (newest : ℕ) (bytes : List ℕ) (n : ℕ) : Type 0 where
  pub length_is : length bytes ≡ block_bytes * n
  pub some_block : 1 ≤ n
  pub few_blocks : n ≤ most_blocks
  pub all_checked_lem : all_checked 0 (pieces block_bytes n bytes) ≡ true
  pub edition_known : is_edition newest (edition_word (words bytes)) ≡ true
  pub past_block : block_words * (n - 1) < length_word (words bytes)
  pub in_block : length_word (words bytes) ≤ block_words * n
  pub zero_after : all_of (eqb 0) (drop (length_word (words bytes)) (words bytes)) ≡ true

pub framed_intact : (newest : ℕ) (bytes ws : List ℕ) → framed newest bytes ≡ Some ws →
    Intact newest bytes (block_count bytes) × (ws ≡ take (length_word (words bytes)) (words bytes))
unfolding framed intact_blocks intact_words ends_in_last blocks
framed_intact newest bytes ws e =
    cond_inv (intact_blocks bytes && intact_words newest n w) e (λ x. let z : ◌≡◌ {A = ℕ} 0 1 = cc in omega arith) λ t e.
    let ib = and_first (intact_blocks bytes) (intact_words newest n w) t in
    let iw = and_second (intact_blocks bytes) (intact_words newest n w) t in
    let b₁ = eqb (length bytes % block_bytes) 0 in
    let b₂ = leb 1 n in
    let b₃ = leb n most_blocks in
    let b₄ = all_checked 0 (pieces block_bytes n bytes) in
    let c₁ = is_edition newest (edition_word w) in
    let c₂ = ltb (block_words * (n - 1)) m && leb m (block_words * n) in
    let c₃ = all_of (eqb 0) (drop m w) in
    let i₃ = and_first (b₁ && b₂ && b₃) b₄ ib in
    let i₂ = and_first (b₁ && b₂) b₃ i₃ in
    let j = and_first (c₁ && c₂) c₃ iw in
    let l = and_second c₁ c₂ j in (
      record {
        length_is = whole_blocks (eqb-true (length bytes % block_bytes) 0 (and_first b₁ b₂ i₂));
        some_block = leb-true 1 n (and_second b₁ b₂ i₂);
        few_blocks = leb-true n most_blocks (and_second (b₁ && b₂) b₃ i₃);
        all_checked_lem = and_second (b₁ && b₂ && b₃) b₄ ib;
        edition_known = and_first c₁ c₂ j;
        past_block = ltb-true (block_words * (n - 1)) m (and_first (ltb (block_words * (n - 1)) m) (leb m (block_words * n)) l);
        in_block = leb-true m (block_words * n) (and_second (ltb (block_words * (n - 1)) m) (leb m (block_words * n)) l);
        zero_after = and_second (c₁ && c₂) c₃ iw;
      },
      let r : take m w ≡ ws = cc in sym r,
    )
  where
    n : ℕ
    n = block_count bytes

    w : List ℕ
    w = words bytes

    m : ℕ
    m = length_word w

    whole_blocks : length bytes % block_bytes ≡ 0 → length bytes ≡ block_bytes * block_count bytes
    whole_blocks e = unfold block_count in omega arith

-- framed words: their title, their width, and the bytes that they are written as
pub record Framed (newest : ℕ) (bytes ws : List ℕ) : Type 0 where
  pub bytes_are : bytes ≡ written ws
  pub titled_as : ws ≡ titled (edition_word ws) (drop 2 ws)
  pub edition_known : is_edition newest (edition_word ws) ≡ true
  pub are_words : all_of is_word ws ≡ true
  pub few : blocks_for (length ws) ≤ most_blocks
  pub length_is : length ws ≡ length_word (words bytes)

title_of : (w : List ℕ) (n : ℕ) → get_or w 1 0 ≡ n → n ≤ length w → 1 ≤ n → all_of (eqb 0) (drop n w) ≡ true →
    (take n w ≡ titled (edition_word (take n w)) (drop 2 (take n w))) × (edition_word w ≡ edition_word (take n w))
unfolding titled edition_word
title_of [] n b l h z = absurd (omega arith)
title_of (x ∷ []) n b l h z = absurd (omega arith)
title_of (x ∷ y ∷ w) zero b l h z = absurd (omega arith)
title_of (x ∷ y ∷ w) (suc zero) b l h z =
    let e : 0 ≡ y = eqb-true 0 y (and_first (eqb 0 y) (all_of (eqb 0) w) z) in absurd (omega arith)
title_of (x ∷ y ∷ w) (suc (suc n)) b l h z =
    let e : y ≡ length (take n w) + 2 = omega (arith, length-take n w) in
    (ap (λ v. x ∷ v ∷ take n w) e, refl)

pub framed_bytes : (newest : ℕ) (bytes ws : List ℕ) → all_of is_byte bytes ≡ true → framed newest bytes ≡ Some ws → Framed newest bytes ws
unfolding written blocks_for
framed_bytes newest bytes ws h e =
    let i = framed_intact newest bytes ws e in
    let n = block_count bytes in
    let w = words bytes in
    let m = length_word w in
    let t = i.0 in
    let l : length (take m w) ≡ m = length-take-le m w (omega (arith, length_words bytes, t.in_block)) in
    let lw : length ws ≡ m = ap length i.1 ∙ l in
    let c : blocks_for (length ws) ≡ n = omega (arith, t.past_block, t.in_block, t.some_block, lw) in
    let a = title_of w m (length_word_lem w) (omega (arith, length_words bytes, t.in_block)) (omega (arith, t.past_block)) t.zero_after in
    record {
      bytes_are =
          sym
          (ap₂ (λ k x. concat_map_from 0 block_of (pieces block_words k x)) c i.1
          ∙ blocks_cut 0 n m w t.zero_after
          ∙ ap (concat_map_from 0 block_of) (pieces_words bytes)
          ∙ reblocked n 0 bytes t.length_is h t.all_checked_lem);
      titled_as = rw i.1 a.0;
      edition_known = rw i.1 (sym (ap (is_edition newest) a.1) ∙ t.edition_known);
      are_words = rw i.1 (all_take is_word m w (words_small bytes h));
      few = omega (arith, c, t.few_blocks);
      length_is = lw;
    }
  where
    length_word_lem : (w : List ℕ) → get_or w 1 0 ≡ length_word w
    length_word_lem w = unfold length_word in refl

    pieces_words : (bytes : List ℕ) → pieces block_words (block_count bytes) (words bytes) ≡ map words_in (pieces block_bytes (block_count bytes) bytes)
    pieces_words bytes =
        unfold words blocks in
        ap (λ k. pieces block_words k (concat_map words_in (pieces block_bytes (block_count bytes) bytes))) (sym (length_pieces block_bytes (block_count bytes) bytes))
        ∙ pieces_concat_map words_in block_words length_words_in (pieces block_bytes (block_count bytes) bytes)

-- two sheets of the same words are the same
pub framed_same : (newest : ℕ) (s t ws : List ℕ) → all_of is_byte s ≡ true → all_of is_byte t ≡ true → framed newest s ≡ Some ws →
    framed newest t ≡ Some ws → s ≡ t
framed_same newest s t ws h k d e = (framed_bytes newest s ws h d).bytes_are ∙ sym (framed_bytes newest t ws k e).bytes_are

-- what is written is bytes
pub written_bytes : (ws : List ℕ) → all_of is_byte (written ws) ≡ true
unfolding written
written_bytes ws = go 0 (pieces block_words (blocks_for (length ws)) ws)
  where
    words_bytes : (xs : List ℕ) → all_of is_byte (concat_map (bytes_of 4) xs) ≡ true
    words_bytes [] = refl
    words_bytes (x ∷ xs) = all_append is_byte (bytes_of 4 x) (concat_map (bytes_of 4) xs) (bytes_of_bytes 4 x) (words_bytes xs)

    block : (k : ℕ) (p : List ℕ) → all_of is_byte (block_of k p) ≡ true
    block k p =
        unfold block_of padded in
        all_append is_byte (padded p) (bytes_of 4 (check_word k (padded p))) (words_bytes (filled p)) (bytes_of_bytes 4 (check_word k (padded p)))

    go : (k : ℕ) (ps : List (List ℕ)) → all_of is_byte (concat_map_from k block_of ps) ≡ true
    go k [] = refl
    go k (p ∷ ps) = all_append is_byte (block_of k p) (concat_map_from (suc k) block_of ps) (block k p) (go (suc k) ps)

-- the tests passed, one by one
pub intact_framed : (newest : ℕ) (bytes : List ℕ) → Intact newest bytes (block_count bytes) →
    framed newest bytes ≡ Some (take (length_word (words bytes)) (words bytes))
unfolding framed intact_blocks intact_words ends_in_last blocks
intact_framed newest bytes i =
    let n = block_count bytes in
    let m = length_word (words bytes) in
    rw (
      eq-eqb (length bytes % block_bytes) 0 (omega (arith, i.length_is)),
      le-leb 1 n i.some_block,
      le-leb n most_blocks i.few_blocks,
      i.all_checked_lem,
      i.edition_known,
      lt-ltb (block_words * (n - 1)) m i.past_block,
      le-leb m (block_words * n) i.in_block,
      i.zero_after,
    )

-- a test that fails
pub broken_blocks : (newest : ℕ) (bytes : List ℕ) → intact_blocks bytes ≡ false → framed newest bytes ≡ None
unfolding framed
broken_blocks newest bytes h = rw h

pub broken_words : (newest : ℕ) (bytes : List ℕ) → intact_words newest (block_count bytes) (words bytes) ≡ false → framed newest bytes ≡ None
unfolding framed
broken_words newest bytes h =
    rw h (ap (λ b. cond b (Some (take (length_word (words bytes)) (words bytes))) None) (and-false (intact_blocks bytes)))
