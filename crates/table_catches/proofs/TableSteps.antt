-- The whole table: its two words in front, and the handlers as the sheet holds them.
use mathlib.Core.Path.{◌≡◌, refl, sym, ap, ap₂, ◌∙◌}
use mathlib.Core.Bool.{Bool, true, false, cond, ◌&&◌}
use mathlib.Core.List.{List, [], ◌∷◌, map}
use Prim.Native.Nat.{ℕ, suc, ◌+◌, ◌*◌, ◌≤◌, ◌<◌}
use native.Mathlib.Omega.{arith}
use native.Mathlib.Nat.{zero-add}
use lib.Dec.{leb, ltb}
use lib.ListN.{length, get_or, length-map}
use borrow.Author.Tests.{lt-ltb, le-ltb, ltb-true, ltb-false}
use Rattle.lists.specs.Lists.{from, first_at}
use Rattle.lists.specs.ListLaws.{length_concat_map, get_d_concat_map, length_from, map_agree}
use Rattle.blocks.specs.Blocks.{words}
use Rattle.blocks.specs.Frame.{first_words}
use Rattle.blocks.proofs.FirstWords.{first_words_at, length_first_words}
use Rattle.reader.specs.ReaderLaws.{stands_in, stands_at}
use Rattle.sheet.specs.Module.{Handler}
use Rattle.sheet.specs.Encode.{encode_handler, encode_inst}
use Rattle.sheet.proofs.FuncCodes.{handlers_codes, insts_codes}
use Rattle.code.specs.Code.{covers}
use Rattle.region.specs.Region.{Off, Frame}
use Rattle.region.specs.RegionLaws.{frame_then}
use Rattle.writing.specs.Writing.{written}
use Rattle.writing.specs.WritingLaws.{written_by, written_then, written_length, join_written}
use Rattle.table.specs.Records.{no_handler, catcher, catch_table}
use Rattle.open_sheet.specs.declared.Opened.{Opened}
use Rattle.open_sheet.specs.Ready.{Ready}
use Rattle.rule_frames.specs.declared.Frame as frames
use Rattle.rule_frames.specs.Frames.{func_of, Framed}
use Rattle.table_catches.specs.Catch.{within, lowest, catch_at, catches}
use Rattle.table_catches.specs.Painting.{AllIn, AllOut}
use Rattle.table_catches.proofs.CatchLaws.{catches_length, catches_at}

-- ── every position ──

module _ (b u x w y : List ℕ) (at h t m len : ℕ) (i : AllIn u w at h t m len) (f : Frame (Off t (t + len)) u x) (g : Frame (Off m (m + (len + 1))) w y) where
  pub whole_in : AllIn x y at h t m len
  whole_in = record {
    room = record { t_in = omega (arith, i.room.t_in, f.len); m_in = omega (arith, i.room.m_in, g.len); small = i.room.small };
    places = i.places;
    h_none = i.h_none;
  }

  pub whole_table : (x' y' : List ℕ) → AllOut b x x' y y' at h t m len → x' ≡ written u t (catches b at h len)
  whole_table x' y' o = written_by u x' t (catches b at h len)
      (rw (catches_length b at h len) (frame_then (Off t (t + len)) (Off t (t + len)) (Off t (t + len)) u x x' (λ k o. o) (λ k o. o) f o.tables))
      (λ q l. let l' : q < len = omega (arith, catches_length b at h len) in o.value q l' ∙ sym (catches_at b at h len q l'))
      (omega (arith, i.room.t_in, catches_length b at h len))

  pub whole_links : (x' y' : List ℕ) → AllOut b x x' y y' at h t m len → Frame (Off m (m + (len + 1))) w y'
  whole_links x' y' o = frame_then (Off m (m + (len + 1))) (Off m (m + (len + 1))) (Off m (m + (len + 1))) w y y' (λ k o. o) (λ k o. o) g o.links

-- ── handlers by number ──

-- the first that passes, by its number
lowest_first_lem : {A : Type 0} (p : A → Bool) (d : A) (f : ℕ → Bool) (k : ℕ) (xs : List A) → ((i : ℕ) → i < length xs → f (k + i) ≡ p (get_or xs i d))
    → lowest f k (length xs) ≡ cond (ltb (first_at p xs) (length xs)) (k + first_at p xs) no_handler
lowest_first_lem p d f k [] h = refl
lowest_first_lem p d f k (x ∷ xs) h =
    let z : k ≡ k + 0 = omega arith in
    let e : f k ≡ p x = ap f z ∙ h 0 (omega arith) in
    let ih = lowest_first_lem p d f (suc k) xs λ i l. let y : suc k + i ≡ k + suc i = omega arith in ap f y ∙ h (suc i) (omega arith) in
    go (f k) (p x) e ih
  where
    go : (a c : Bool) → a ≡ c → lowest f (suc k) (length xs) ≡ cond (ltb (first_at p xs) (length xs)) (suc k + first_at p xs) no_handler
        → cond a k (lowest f (suc k) (length xs)) ≡ cond (ltb (cond c 0 (suc (first_at p xs))) (suc (length xs))) (k + cond c 0 (suc (first_at p xs))) no_handler
    go true true e ih = rw (lt-ltb 0 (suc (length xs)) (omega arith)) (omega arith)
    go false false e ih = ih ∙ shift (ltb (first_at p xs) (length xs)) refl
      where
        shift : (t : Bool) → ltb (first_at p xs) (length xs) ≡ t
            → cond (ltb (first_at p xs) (length xs)) (suc k + first_at p xs) no_handler ≡ cond (ltb (suc (first_at p xs)) (suc (length xs))) (k + suc (first_at p xs)) no_handler
        shift true e = rw (e, lt-ltb (suc (first_at p xs)) (suc (length xs)) (omega (arith, ltb-true (first_at p xs) (length xs) e))) (omega arith)
        shift false e = rw (e, le-ltb (suc (first_at p xs)) (suc (length xs)) (omega (arith, ltb-false (first_at p xs) (length xs) e))) refl
    go true false e ih = let z : ◌≡◌ {A = ℕ} 0 1 = cc in absurd (omega arith)
    go false true e ih = let z : ◌≡◌ {A = ℕ} 0 1 = cc in absurd (omega arith)

module _ (b : List ℕ) (n : ℕ) (c : frames.Frame) (x : Framed (first_words b n) c) where
  abbrev ws : List ℕ
  ws = first_words b n

  abbrev hs : List Handler
  hs = (func_of ws c).handlers

  none : Handler
  none = record { start = 0; end = 0; target = 0; catch = 0 }

  -- all handlers are within the words
  pub handlers_inside : c.body.handlers + 1 + 4 * c.handlers ≤ n
  unfolding encode_handler
  handlers_inside =
      let s = ((handlers_codes ws).found c.body.handlers hs c.body.tables x.placed.handlers).stands in
      omega (arith, stands_in ws s, s.end, x.handlers, length_concat_map encode_handler 4 (λ h. refl) hs, length_first_words b n)

  -- and so is the code
  pub code_inside : 2 * c.code + 1 ≤ n
  unfolding encode_inst
  code_inside =
      let s = ((insts_codes ws).found c.body.code (func_of ws c).code x.placed.end x.placed.code).stands in
      omega (arith, stands_in ws s, s.end, x.code, length_concat_map encode_inst 2 (λ i. refl) (func_of ws c).code, length_first_words b n)

  -- word j of handler k
  handler_word : (k j : ℕ) → k < length hs → j < 4 → get_or (words b) (c.body.handlers + 1 + 4 * k + j) 0 ≡ get_or (encode_handler (get_or hs k none)) j 0
  unfolding encode_handler
  handler_word k j h l =
      let s = ((handlers_codes ws).found c.body.handlers hs c.body.tables x.placed.handlers).stands in
      let z : c.body.handlers + 1 + 4 * k + j ≡ c.body.handlers + suc (4 * k + j) = omega arith in
      sym (first_words_at b n (c.body.handlers + 1 + 4 * k + j) (omega (arith, handlers_inside, x.handlers)))
      ∙ ap (λ i. get_or ws i 0) z
      ∙ stands_at ws s (suc (4 * k + j)) (omega (arith, length_concat_map encode_handler 4 (λ h. refl) hs))
      ∙ get_d_concat_map encode_handler 4 (λ h. refl) hs k j none 0 h l

  covered : (q k : ℕ) → k < length hs → within b (c.body.handlers + 1) q k ≡ covers q (get_or hs k none)
  unfolding covers encode_handler
  covered q k h =
      let z : c.body.handlers + 1 + 4 * k ≡ c.body.handlers + 1 + 4 * k + 0 = omega arith in
      ap₂ (λ s e. leb s q && ltb q e)
      (ap (λ i. get_or (words b) i 0) z ∙ handler_word k 0 h (omega arith))
      (handler_word k 1 h (omega arith))

  caught : (q : ℕ) → catch_at b (c.body.handlers + 1) c.handlers q ≡ catcher hs q
  unfolding catcher
  caught q =
      ap (λ k. catch_at b (c.body.handlers + 1) k q) x.handlers
      ∙ lowest_first_lem (covers q) none (within b (c.body.handlers + 1) q) 0 hs (λ i h. ap (within b (c.body.handlers + 1) q) (zero-add i) ∙ covered q i h)
      ∙ ap (λ k. cond (ltb (first_at (covers q) hs) (length hs)) k no_handler) (zero-add (first_at (covers q) hs))

  all_caught : catches b (c.body.handlers + 1) c.handlers c.code ≡ map (catcher hs) (from 0 (length (func_of ws c).code))
  unfolding catches
  all_caught =
      ap (λ k. map (catch_at b (c.body.handlers + 1) c.handlers) (from 0 k)) x.code
      ∙ map_agree (catch_at b (c.body.handlers + 1) c.handlers) (catcher hs) 0 (length (func_of ws c).code) (λ i g l. caught i)

  -- ── the table of a function ──

  pub few_table : c.handlers ≤ 8 → catch_table (func_of ws c) ≡ 0 ∷ []
  unfolding catch_table
  few_table h = rw (le-ltb 8 (length hs) (omega (arith, x.handlers))) refl

  pub many_table : 8 < c.handlers → catch_table (func_of ws c) ≡ 1 ∷ c.code ∷ catches b (c.body.handlers + 1) c.handlers c.code
  unfolding catch_table
  many_table h =
      ap (λ t. cond t (1 ∷ length (map (catcher hs) (from 0 (length (func_of ws c).code))) ∷ map (catcher hs) (from 0 (length (func_of ws c).code))) (0 ∷ [])) (lt-ltb 8 (length hs) (omega (arith, x.handlers)))
      ∙ ap₂ (λ k l. 1 ∷ k ∷ l)
      (length-map (from 0 (length (func_of ws c).code)) (catcher hs) ∙ length_from 0 (length (func_of ws c).code) ∙ sym x.code)
      (sym all_caught)

  pub few_length : c.handlers ≤ 8 → length (catch_table (func_of ws c)) ≡ 1
  few_length h = ap length (few_table h)

  pub many_length : 8 < c.handlers → length (catch_table (func_of ws c)) ≡ 2 + c.code
  many_length h = omega (arith, ap length (many_table h), catches_length b (c.body.handlers + 1) c.handlers c.code)

  -- ── code, where handlers are few ──

  pub few_written : (u v : List ℕ) (at : ℕ) → c.handlers ≤ 8 → v ≡ written u at (0 ∷ []) → v ≡ written u at (catch_table (func_of ws c))
  few_written u v at h e = e ∙ ap (written u at) (sym (few_table h))

  pub few_end : (at r : ℕ) → c.handlers ≤ 8 → r ≡ at + 1 → r ≡ at + length (catch_table (func_of ws c))
  few_end at r h e = omega (arith, few_length h)

  pub few_room : (u : List ℕ) (at : ℕ) → at + length (catch_table (func_of ws c)) ≤ length u → c.handlers ≤ 8 → at < length u
  few_room u at k h = omega (arith, few_length h)

-- ── code, where they are many ──

-- the sheet's side of it
module _ (b w : List ℕ) (o : Opened) (x : Ready (first_words b o.layout.words) w o) (c : frames.Frame) (y : Framed (first_words b o.layout.words) c) (u : List ℕ) (at : ℕ)
    (room : at + length (catch_table (func_of (first_words b o.layout.words) c)) ≤ length u) (many : 8 < c.handlers) where
  pub many_room : at + 2 + c.code ≤ length u
  many_room = omega (arith, many_length b o.layout.words c y many)

  pub first_room : at < length u
  first_room = omega (arith, many_room)

  -- the numbers that the code makes are below the length of the lent words
  pub many_sums : (c.body.handlers + 1 + 4 * c.handlers ≤ length w) × (6 * o.layout.words + (c.code + 1) ≤ length w)
  many_sums = omega (arith, handlers_inside b o.layout.words c y, code_inside b o.layout.words c y, x.room)

  -- the table after its two words
  module _ (u₁ : List ℕ) (second : ℕ) (e₁ : u₁ ≡ written u at (1 ∷ [])) (s : second ≡ at + 1) where
    pub second_room : second < length u₁
    second_room = omega (arith, many_room, ap length e₁, written_length u at (1 ∷ []) (omega (arith, many_room)))

    module _ (u₂ : List ℕ) (t : ℕ) (e₂ : u₂ ≡ written u₁ second (c.code ∷ [])) (et : t ≡ second + 1) (h len : ℕ) (eh : h ≡ c.handlers) (el : len ≡ c.code) where
      two : u₂ ≡ written u at (1 ∷ c.code ∷ [])
      two = join_written u at (1 ∷ []) (c.code ∷ []) (omega (arith, many_room)) u₁ second e₁ s e₂

      pub many_in : h < 4294967296 → len < 4294967296 → length w < 18446744073709551616 → AllIn u₂ w (c.body.handlers + 1) h t (6 * o.layout.words) len
      many_in a d e = record {
        room = record {
          t_in = omega (arith, many_room, ap length two, written_length u at (1 ∷ c.code ∷ []) (omega (arith, many_room)));
          m_in = omega (arith, many_sums);
          small = d;
        };
        places = omega (arith, many_sums);
        h_none = omega arith;
      }

      pub many_end : t + len ≡ at + length (catch_table (func_of (first_words b o.layout.words) c))
      many_end = omega (arith, many_length b o.layout.words c y many)

      pub many_written : (v : List ℕ) → v ≡ written u₂ t (catches b (c.body.handlers + 1) h len) → v ≡ written u at (catch_table (func_of (first_words b o.layout.words) c))
      many_written v e =
          let cs = catches b (c.body.handlers + 1) c.handlers c.code in
          let z : t ≡ at + 2 = omega arith in
          e
          ∙ ap₂ (λ k l. written u₂ t (catches b (c.body.handlers + 1) k l)) eh el
          ∙ ap₂ (λ k i. written k i cs) two z
          ∙ written_then u at (1 ∷ c.code ∷ []) cs (omega (arith, many_room))
          ∙ ap (written u at) (sym (many_table b o.layout.words c y many))

      pub many_kept : (v : List ℕ) → Frame (Off (6 * o.layout.words) (6 * o.layout.words + (len + 1))) w v → Frame (λ k. k < 6 * o.layout.words) w v
      many_kept v f = record { len = f.len; same = λ k l. f.same k (omega arith) }
