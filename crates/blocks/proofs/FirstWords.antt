-- The first n words, as code reads them: a word at a time, below n.
use Rattle.std.specs.Prelude.{ℕ, ◌≤◌, ◌<◌, ◌≡◌, refl, List, ◌++◌, true, length, get_or, take, replicate}
use Rattle.std.proofs.Common.{sym, ap, ◌∙◌, arith, length-append, length-take-le, get_or-take}
use Rattle.std.specs.Prelude.{Option, None, Some}
use Rattle.std.proofs.lemmas.List.{length-replicate, take-append-le}
use Rattle.lists.specs.Lists.{all_of}
use Rattle.lists.specs.ListLaws.{all_take, all_append, all_replicate}
use Rattle.blocks.specs.Blocks.{words, length_word, framed, edition_word}
use Rattle.std.specs.Prelude.{Option}
use Rattle.std.specs.Prelude.{None, Some}
use Rattle.blocks.specs.Frame.{frame_of, first_words}
use Rattle.blocks.specs.ByteLaws.{is_byte, is_word}
use Rattle.blocks.specs.WordLaws.{length_words}
use Rattle.blocks.proofs.FramedLaws.{edition_range, framed_intact, words_small}
use Rattle.blocks.proofs.ByteAccessLaws.{get_d_zeros}

pub length_first_words : (b : List ℕ) (n : ℕ) → length (first_words b n) ≡ n
unfolding first_words
length_first_words b n = length-take-le n (words b ++ replicate n 0) (omega (arith, length-append (words b) (replicate n 0), length-replicate {A = ℕ} n 0))

pub first_words_at : (b : List ℕ) (n i : ℕ) → i < n → get_or (first_words b n) i 0 ≡ get_or (words b) i 0
unfolding first_words
first_words_at b n i h = get_or-take n (words b ++ replicate n 0) i 0 h ∙ get_d_zeros (words b) n i

-- a frame has as many words as it says
pub framed_length : (newest : ℕ) (b ws : List ℕ) → framed newest b ≡ Some ws →
    (length ws ≡ length_word (words b)) × (length_word (words b) ≤ length (words b))
framed_length newest b ws e =
    let i = framed_intact newest b ws e in
    let w : length_word (words b) ≤ length (words b) = omega (arith, length_words b, i.0.in_block) in
    (ap length i.1 ∙ length-take-le (length_word (words b)) (words b) w, w)

-- and states an edition that is known
pub framed_edition : (newest : ℕ) (b ws : List ℕ) → framed newest b ≡ Some ws →
    (edition_word ws ≡ edition_word (words b)) × (1 ≤ edition_word (words b)) × (edition_word (words b) ≤ newest)
unfolding edition_word
framed_edition newest b ws e =
    let i = framed_intact newest b ws e in
    let m = length_word (words b) in
    let r = edition_range newest (get_or (words b) 0 0) i.0.edition_known in
    (ap (λ l. get_or l 0 0) i.1 ∙ get_or-take m (words b) 0 0 (omega (arith, i.0.past_block)), r.0, r.1)

-- of a frame they are its words
pub first_words_framed : (newest : ℕ) (b ws : List ℕ) → framed newest b ≡ Some ws → first_words b (length ws) ≡ ws
unfolding first_words
first_words_framed newest b ws e =
    let m = length_word (words b) in
    let l = framed_length newest b ws e in
    ap (λ n. take n (words b ++ replicate n 0)) l.0 ∙ take-append-le m (words b) (replicate m 0) l.1
    ∙ sym (framed_intact newest b ws e).1

pub first_words_small : (b : List ℕ) (n : ℕ) → all_of is_byte b ≡ true → all_of is_word (first_words b n) ≡ true
unfolding first_words
first_words_small b n h = all_take is_word n (words b ++ replicate n 0) (all_append is_word (words b) (replicate n 0) (words_small b h) (all_replicate is_word n 0 refl))

-- ── an answer ──

pub frame_found : {C : Type 0} (o : Option (List ℕ)) {r : Option ℕ} {n : ℕ} → r ≡ Some n → r ≡ frame_of o → ((ws : List ℕ) → o ≡ Some ws → n ≡ length ws → C) → C
unfolding frame_of
frame_found None e f k = let z : ◌≡◌ {A = ℕ} 0 1 = cc in absurd (omega arith)
frame_found (Some ws) e f k = k ws refl (cc)

pub frame_none : (o : Option (List ℕ)) {r : Option ℕ} → r ≡ None → r ≡ frame_of o → o ≡ None
unfolding frame_of
frame_none None e f = refl
frame_none (Some ws) e f = let z : ◌≡◌ {A = ℕ} 0 1 = cc in absurd (omega arith)

-- 127 words for each of 4,096 blocks
pub frame_few : (newest : ℕ) (b : List ℕ) {r : Option ℕ} {n : ℕ} → r ≡ Some n → r ≡ frame_of (framed newest b) → n ≤ 520192
frame_few newest b e k = frame_found (framed newest b) e k λ ws f l.
    let i = framed_intact newest b ws f in
    let m = length_word (words b) in
    let w : length (take m (words b)) ≡ m = length-take-le m (words b) (omega (arith, length_words b, i.0.in_block)) in
    omega (arith, ap length i.1, w, i.0.in_block, i.0.few_blocks)
