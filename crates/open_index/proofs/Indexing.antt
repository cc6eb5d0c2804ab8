-- A loop that writes where each member of a list stands: left are ahead, it stands at q, and writes to word i next.
use Prim.Native.Nat.{ℕ, suc, ◌+◌, ◌-◌, ◌≤◌, ◌<◌}
use mathlib.Core.Path.{◌≡◌, sym, ap, ap₂, ◌∙◌}
use mathlib.Core.List.{List, [], ◌∷◌, ◌++◌}
use mathlib.Core.Bool.{true}
use native.Mathlib.Omega.{arith}
use native.Mathlib.Numerals.{add-one}
use lib.ListN.{length, get_or, set, drop, length-append}
use lib.Seq.{paste, paste-zero, paste-suc, length-paste}
use Rattle.blocks.specs.Blocks.{words}
use Rattle.blocks.specs.Frame.{first_words}
use Rattle.lists.specs.Lists.{all_of}
use Rattle.blocks.specs.ByteLaws.{is_byte, is_word}
use Rattle.blocks.proofs.FirstWords.{length_first_words, first_words_small}
use Rattle.std.specs.Prelude.{Option, Some, IsSome, is_some}
use Rattle.reader.specs.Reader.{got, many, list_of}
use Rattle.reader.specs.ReaderLaws.{then_inv}
use Rattle.reader.specs.Step.{step_of}
use Rattle.reader.specs.StepLaws.{arrived, word_read}
use Rattle.reader.specs.Value.{Whole}
use Rattle.reader.specs.ValueLaws.{whole_inv, list_within}
use Rattle.reader.proofs.SizeLaws.{many_length}
use Rattle.open_index.specs.declared.Part.{Part}
use Rattle.open_index.specs.Index.{member_of, edges_of}
use Rattle.open_index.specs.IndexLaws.{edges_got}
use Rattle.open_index.proofs.Members.{member_is, member_inside, drop_next, get_d_here}

pub record Indexes (part : Part) (ws : List ℕ) (at : ℕ) (w₀ : List ℕ) (base : ℕ) (w : List ℕ) (left q i : ℕ) : Type 0 where
  pub room : base + length (edges_of part ws at) ≤ length w₀
  pub turn : i + left + 1 ≡ base + length (edges_of part ws at)
  pub from : base ≤ i
  pub ahead : List ℕ
  pub stop : ℕ
  pub rest : many left (member_of part) ws q ≡ got ahead stop
  pub still : drop (i - base) (edges_of part ws at) ≡ ahead ++ (stop ∷ [])
  pub wrote : w ≡ paste w₀ base (edges_of part ws at) (i - base)
  pub small : all_of is_word ws ≡ true
  pub inside : q ≤ length ws

module _ (part : Part) (bytes : List ℕ) (n at : ℕ) (w₀ : List ℕ) (base : ℕ) where
  start_go : {c : ℕ} (xs : List ℕ) (q : ℕ) → at < n → c ≡ get_or (words bytes) at 0 → list_of (member_of part) (first_words bytes n) at ≡ got xs q →
      many c (member_of part) (first_words bytes n) (at + 1) ≡ got xs q
  unfolding list_of
  start_go xs q h k e = rw (word_read bytes n at h k) at e

  pub indexes_start : {c : ℕ} → all_of is_byte bytes ≡ true → Whole (list_of (member_of part) (first_words bytes n) at) → base + length (edges_of part (first_words bytes n) at) ≤ length w₀ →
      c ≡ get_or (words bytes) at 0 → Indexes part (first_words bytes n) at w₀ base w₀ (base + c - base) (at + 1) base
  unfolding edges_of
  indexes_start {c} b h r k =
      let ws = first_words bytes n in
      whole_inv (list_of (member_of part) ws at) h λ xs q e.
      let m = edges_got e in
      let g = start_go xs q (list_within (member_of part) bytes n at h) k e in
      let z : base - base ≡ 0 = omega arith in
      let y : base + c - base ≡ c = omega arith in
      record {
        room = r;
        turn = omega (arith, ap length m, length-append xs (q ∷ []), many_length c (member_of part) ws (at + 1) xs q g);
        from = omega arith;
        ahead = xs;
        stop = q;
        rest = ap (λ k. many k (member_of part) ws (at + 1)) y ∙ g;
        still = rw z m;
        wrote = rw z (paste-zero w₀ base (edges_of part ws at));
        small = first_words_small bytes n b;
        inside = omega (arith, list_within (member_of part) bytes n at h, length_first_words bytes n);
      }

module _ (part : Part) (ws : List ℕ) (at : ℕ) (w₀ : List ℕ) (base : ℕ) where
  abbrev S : List ℕ
  S = edges_of part ws at

  module _ (w : List ℕ) (end q i : ℕ) (x : Indexes part ws at w₀ base w (end - i) q i) where
    pub indexes_length : length w ≡ length w₀
    indexes_length = ap length x.wrote ∙ length-paste w₀ base S (i - base) (omega (arith, x.room, x.turn, x.from)) (omega (arith, x.turn, x.from))

    pub indexes_room : i + (end - i) + 1 ≤ length w₀
    indexes_room = omega (arith, x.room, x.turn)

    -- what is written next: v, which stands first of what is still to be written
    write : (v : ℕ) (ys : List ℕ) → drop (i - base) S ≡ v ∷ ys → set w i v ≡ paste w₀ base S (i + 1 - base)
    write v ys e =
        let n : i + 1 - base ≡ i - base + 1 = omega (arith, x.from) in
        let b : base + (i - base) ≡ i = omega (arith, x.from) in
        rw n (ap₂ (λ l j. set l j v) x.wrote (sym b) ∙ ap (λ u. set (paste w₀ base S (i - base)) (base + (i - base)) u) (sym (get_d_here S (i - base) 0 e))
        ∙ paste-suc w₀ base S (i - base) 0 (omega (arith, x.room, x.turn, x.from)) (omega (arith, x.turn, x.from)) ∙ ap (paste w₀ base S) (sym (add-one (i - base))))

    -- the list ends at q
    at_end : end ≤ i → drop (i - base) S ≡ q ∷ []
    unfolding many
    at_end h =
        let z : end - i ≡ 0 = omega arith in
        let e = ap (λ k. many k (member_of part) ws q) (sym z) ∙ x.rest in
        let a : [] ≡ x.ahead = cc in
        let s : q ≡ x.stop = cc in
        x.still ∙ ap₂ (λ l k. l ++ (k ∷ [])) (sym a) (sym s)

    pub indexes_end : i ≡ end → set w end q ≡ paste w₀ base (edges_of part ws at) (length (edges_of part ws at))
    indexes_end h =
        let e : i + 1 - base ≡ length S = omega (arith, x.turn, x.from) in
        ap (λ j. set w j q) (sym h) ∙ write q [] (at_end (omega arith)) ∙ ap (paste w₀ base S) e

    pub indexes_after : i ≡ end → end + 1 ≡ base + length (edges_of part ws at)
    indexes_after h = omega (arith, x.turn)

    module _ (h : i < end) where
      more : end - i ≡ suc (end - (i + 1))
      more = omega arith

      -- the next position is q
      next : {C : Type 0} → ((ys : List ℕ) (q₂ : ℕ) → member_of part ws q ≡ got q q₂ → x.ahead ≡ q ∷ ys → many (end - (i + 1)) (member_of part) ws q₂ ≡ got ys x.stop → C) → C
      unfolding many
      next g =
          then_inv (member_of part ws q) _ (ap (λ n. many n (member_of part) ws q) (sym more) ∙ x.rest) λ s p₁ e₁ e₂.
          then_inv (many (end - (i + 1)) (member_of part) ws p₁) _ e₂ λ ys p₃ e₅ e₆.
          let hs : s ≡ q = member_is part ws q s p₁ e₁ in
          let hy : s ∷ ys ≡ x.ahead = cc in
          let he : p₃ ≡ x.stop = cc in
          g ys p₁ (e₁ ∙ ap (λ k. got k p₁) hs) (sym hy ∙ ap (λ k. k ∷ ys) hs) (e₅ ∙ ap (got ys) he)

      pub indexes_some : {r : Option ℕ} → r ≡ step_of (member_of part ws q) → IsSome r
      unfolding step_of
      indexes_some k = next λ ys q₂ e₁ e₂ e₃. ap is_some (k ∙ ap step_of e₁)

      pub indexes_next : (q₂ : ℕ) {r : Option ℕ} → r ≡ Some q₂ → r ≡ step_of (member_of part ws q) → Indexes part ws at w₀ base (set w i q) (end - (i + 1)) q₂ (i + 1)
      indexes_next q₂ e k =
          arrived (member_of part ws q) e k λ a₂ g. next λ ys q₃ e₁ e₂ e₃.
          let hq : q₃ ≡ q₂ = cc in
          let n : i + 1 - base ≡ i - base + 1 = omega (arith, x.from) in
          let d : drop (i - base) S ≡ q ∷ (ys ++ (x.stop ∷ [])) = x.still ∙ ap (λ l. l ++ (x.stop ∷ [])) e₂ in
          record {
            room = x.room;
            turn = omega (arith, x.turn);
            from = omega (arith, x.from);
            ahead = ys;
            stop = x.stop;
            rest = ap (λ j. many (end - (i + 1)) (member_of part) ws j) (sym hq) ∙ e₃;
            still = rw n (drop_next S (i - base) d);
            wrote = write q (ys ++ (x.stop ∷ [])) d;
            small = x.small;
            inside = member_inside part ws x.small q q q₂ (e₁ ∙ ap (got q) hq);
          }

-- a position that is written is at most n
pub indexes_in : (part : Part) (bytes : List ℕ) (n at : ℕ) (w₀ : List ℕ) (base : ℕ) (w : List ℕ) (left q i : ℕ) → Indexes part (first_words bytes n) at w₀ base w left q i → q ≤ n
indexes_in part bytes n at w₀ base w left q i x = omega (arith, x.inside, length_first_words bytes n)
