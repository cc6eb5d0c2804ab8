-- Handlers: four words each, and the register that catches.
use Prim.Native.Nat.{ℕ, ◌+◌, ◌-◌, ◌*◌, ◌≤◌, ◌<◌}
use mathlib.Core.Path.{◌≡◌, refl, sym, ap, ap₂, ◌∙◌}
use mathlib.Core.List.{List, [], ◌++◌}
use mathlib.Core.Bool.{Bool, true, false, ◌&&◌}
use native.Mathlib.Omega.{arith}
use native.Mathlib.Decide.{dec_lt}
use lib.Dec.{eqb, leb, ltb}
use lib.ListN.{length, get_or}
use borrow.Author.Tests.{lt-ltb, le-ltb, le-leb, lt-leb, ltb-true, ne_eqb}
use Rattle.lists.specs.Lists.{concat_map}
use Rattle.lists.specs.ListLaws.{and_second}
use Rattle.blocks.specs.Blocks.{words}
use Rattle.blocks.specs.Frame.{first_words}
use Rattle.blocks.proofs.FirstWords.{length_first_words}
use Rattle.error.specs.declared.LoadErrorKind.{LoadErrorKind}
use Rattle.error.specs.declared.LoadErrorKind.TheVariants.{InvalidHandler, CatchNotDyn}
use Rattle.error.specs.Verdict.{Verdict}
use Rattle.std.specs.Prelude.{Err, Ok}
use Rattle.error.specs.Answer.{unless}
use Rattle.error.specs.Verdict.{verdict_of}
use Rattle.reader.specs.Reader.{broken, got}
use Rattle.reader.specs.StepLaws.{word_read}
use Rattle.reader.specs.Value.{Whole, value_of}
use Rattle.reader.specs.ValueLaws.{whole_inv, got_whole, value_got, list_within}
use Rattle.reader.proofs.SizeLaws.{list_count}
use Rattle.sheet.specs.Module.{ValueType, basic, ref, is_dyn, Handler}
use Rattle.sheet.specs.Decode.{value_type, handler_of}
use Rattle.sheet.proofs.SizeLaws.{value_takes}
use Rattle.code.specs.Code.{is_dyn_register, good_handler, handler_faults}
use Rattle.law_judging.specs.Judging.{list_faults}
use Rattle.law_judging.specs.Each.{each_faults}
use Rattle.law_judging.proofs.EachLaws.{list_member, list_room, list_judged, read_same}
use Rattle.rule_frames.specs.declared.Frame.{Frame}
use Rattle.rule_frames.specs.Frames.{func_of, Framed}
use Rattle.rule7_parts.specs.CodeParts.{no_handler, handlers_faults}
use Rattle.rule7_parts.proofs.Sizes.{handler_takes, list_at, list_inside}

-- ── a register ──

module _ (b : List ℕ) (n p : ℕ) {w : ℕ} (v : ValueType) (q : ℕ) where
  value_is : p < n → w ≡ get_or (words b) p 0 → value_type (first_words b n) p ≡ got v q → eqb w 12 ≡ is_dyn v
  unfolding value_type is_dyn
  value_is h e g = go (dec_lt w 13) (dec_lt w 16)
    where
      go : Dec (w < 13) → Dec (w < 16) → eqb w 12 ≡ is_dyn v
      go (yes l) d =
          let r : value_type (first_words b n) p ≡ got (basic w) (p + 1) = rw (word_read b n p h e, lt-ltb w 13 l) in
          let k : got (basic w) (p + 1) ≡ got v q = sym r ∙ g in
          let z : basic w ≡ v = cc in
          ap is_dyn z
      go (no l) (yes m) =
          let r : value_type (first_words b n) p ≡ broken = rw (word_read b n p h e, le-ltb w 13 (omega arith), lt-ltb w 16 m) in
          let k : broken ≡ got v q = sym r ∙ g in
          let z : ◌≡◌ {A = ℕ} 0 1 = cc in absurd (omega arith)
      go (no l) (no m) =
          let r : value_type (first_words b n) p ≡ got (ref (w - 16)) (p + 1) = rw (word_read b n p h e, le-ltb w 13 (omega arith), le-ltb w 16 (omega arith)) in
          let k : got (ref (w - 16)) (p + 1) ≡ got v q = sym r ∙ g in
          let z : ref (w - 16) ≡ v = cc in
          ne_eqb w 12 (omega arith) ∙ ap is_dyn z

module _ (b : List ℕ) (n : ℕ) (c : Frame) (x : Framed (first_words b n) c) where
  pub regs_inside : c.body.regs + 1 + c.regs ≤ n
  regs_inside =
      let e : c.regs ≡ length (func_of (first_words b n) c).regs = x.regs in
      let i : c.body.regs + 1 + 1 * length (func_of (first_words b n) c).regs ≤ n = list_inside value_type 1 value_takes b n c.body.regs (func_of (first_words b n) c).regs c.body.params x.placed.regs in
      omega arith

  pub register_is : (r : ℕ) {w : ℕ} → r < c.regs → w ≡ get_or (words b) (c.body.regs + 1 + r) 0 → eqb w 12 ≡ is_dyn_register (func_of (first_words b n) c) r
  unfolding is_dyn_register
  register_is r {w} h e =
      let z : c.body.regs + 1 + 1 * r ≡ c.body.regs + 1 + r = omega arith in
      let k : c.regs ≡ length (func_of (first_words b n) c).regs = x.regs in
      value_is b n (c.body.regs + 1 + r) (get_or (func_of (first_words b n) c).regs r (basic 0)) (c.body.regs + 1 + 1 * r + 1) (omega (arith, regs_inside)) e
      (ap (value_type (first_words b n)) (sym z)
      ∙ list_at value_type 1 value_takes b n c.body.regs (func_of (first_words b n) c).regs c.body.params x.placed.regs r (basic 0) (omega arith))

-- ── a handler ──

-- four tests, as far as they hold
module _ (a b c d : Bool) where
  stop_first : a ≡ false → false ≡ (a && b && c && d)
  stop_first e = sym (ap (λ x. x && b && c && d) e)

  stop_second : a ≡ true → b ≡ false → false ≡ (a && b && c && d)
  stop_second e f = sym (ap (λ x. x && b && c && d) e ∙ ap (λ x. x && c && d) f)

  stop_third : a ≡ true → b ≡ true → c ≡ false → false ≡ (a && b && c && d)
  stop_third e f g = sym (ap (λ x. x && b && c && d) e ∙ ap (λ x. x && c && d) f ∙ ap (λ x. x && d) g)

  to_fourth : a ≡ true → b ≡ true → c ≡ true → d ≡ (a && b && c && d)
  to_fourth e f g = sym (ap (λ x. x && b && c && d) e ∙ ap (λ x. x && c && d) f ∙ ap (λ x. x && d) g)

module _ (b : List ℕ) (n at : ℕ) (h : Whole (handler_of (first_words b n) at)) where
  pub handler_within : at + 4 ≤ n
  handler_within = whole_inv (handler_of (first_words b n) at) h λ a q e.
      omega (arith, handler_takes.ends (first_words b n) at a q e, handler_takes.inside (first_words b n) at a q e, length_first_words b n)

  module _ {s e t c : ℕ} (hs : s ≡ get_or (words b) at 0) (he : e ≡ get_or (words b) (at + 1) 0) (ht : t ≡ get_or (words b) (at + 2) 0) (hc : c ≡ get_or (words b) (at + 3) 0) where
    handler_read : handler_of (first_words b n) at ≡ got (record { start = s; end = e; target = t; catch = c }) (at + 1 + 1 + 1 + 1)
    unfolding handler_of
    handler_read =
        let z₂ : at + 2 ≡ at + 1 + 1 = omega arith in
        let z₃ : at + 3 ≡ at + 1 + 1 + 1 = omega arith in
        rw (
          word_read b n at (omega (arith, handler_within)) hs,
          word_read b n (at + 1) (omega (arith, handler_within)) he,
          word_read b n (at + 1 + 1) (omega (arith, handler_within)) (ht ∙ ap (λ k. get_or (words b) k 0) z₂),
          word_read b n (at + 1 + 1 + 1) (omega (arith, handler_within)) (hc ∙ ap (λ k. get_or (words b) k 0) z₃),
        )

    pub handler_value : value_of no_handler (handler_of (first_words b n) at) ≡ record { start = s; end = e; target = t; catch = c }
    handler_value = value_got no_handler handler_read

module _ (b : List ℕ) (n at : ℕ) (c : Frame) (x : Framed (first_words b n) c) (h : Whole (handler_of (first_words b n) at)) where
  -- the test, word by word
  tested : {s e t r : ℕ} → s ≡ get_or (words b) at 0 → e ≡ get_or (words b) (at + 1) 0 → t ≡ get_or (words b) (at + 2) 0 → r ≡ get_or (words b) (at + 3) 0 →
      (ltb s e && leb e c.code && ltb t c.code && ltb r c.regs) ≡ good_handler (func_of (first_words b n) c) (value_of no_handler (handler_of (first_words b n) at))
  unfolding good_handler
  tested {s} {e} {t} {r} hs he ht hr =
      ap₂ (λ k g. ltb s e && leb e k && ltb t k && ltb r g) x.code x.regs
      ∙ ap (good_handler (func_of (first_words b n) c)) (sym (handler_value b n at h hs he ht hr))

  module _ {s e : ℕ} (hs : s ≡ get_or (words b) at 0) (he : e ≡ get_or (words b) (at + 1) 0) where
    pub handler_empty : e ≤ s → false ≡ good_handler (func_of (first_words b n) c) (value_of no_handler (handler_of (first_words b n) at))
    handler_empty l = stop_first _ _ _ _ (le-ltb s e l) ∙ tested hs he refl refl

    pub handler_far : s < e → c.code < e → false ≡ good_handler (func_of (first_words b n) c) (value_of no_handler (handler_of (first_words b n) at))
    handler_far k l = stop_second _ _ _ _ (lt-ltb s e k) (lt-leb e c.code l) ∙ tested hs he refl refl

    module _ {t : ℕ} (ht : t ≡ get_or (words b) (at + 2) 0) where
      pub handler_astray : s < e → e ≤ c.code → c.code ≤ t → false ≡ good_handler (func_of (first_words b n) c) (value_of no_handler (handler_of (first_words b n) at))
      handler_astray k l m = stop_third _ _ _ _ (lt-ltb s e k) (le-leb e c.code l) (le-ltb t c.code m) ∙ tested hs he ht refl

      pub handler_last : {r : ℕ} → s < e → e ≤ c.code → t < c.code → r ≡ get_or (words b) (at + 3) 0 →
          ltb r c.regs ≡ good_handler (func_of (first_words b n) c) (value_of no_handler (handler_of (first_words b n) at))
      handler_last {r} k l m hr = to_fourth _ _ _ _ (lt-ltb s e k) (le-leb e c.code l) (lt-ltb t c.code m) ∙ tested hs he ht hr

  module _ {g : Bool} (k : g ≡ good_handler (func_of (first_words b n) c) (value_of no_handler (handler_of (first_words b n) at))) where
    pub handler_bad : g ≡ false → Err InvalidHandler ≡ verdict_of (handler_faults (func_of (first_words b n) c) (value_of no_handler (handler_of (first_words b n) at)))
    unfolding handler_faults verdict_of
    handler_bad e =
        ap (λ t. verdict_of (unless t InvalidHandler ++ unless (is_dyn_register (func_of (first_words b n) c) (value_of no_handler (handler_of (first_words b n) at)).catch) CatchNotDyn)) (sym e ∙ k)

    module _ (e : g ≡ true) {r : ℕ} (hr : r ≡ get_or (words b) (at + 3) 0) where
      pub catch_in_lem : r < c.regs
      catch_in_lem =
          ltb-true r c.regs
          (and_second
          (ltb (get_or (words b) at 0) (get_or (words b) (at + 1) 0) && leb (get_or (words b) (at + 1) 0) c.code && ltb (get_or (words b) (at + 2) 0) c.code)
          (ltb r c.regs)
          (tested refl refl refl hr ∙ sym k ∙ e))

      module _ {d : Bool} (y : d ≡ is_dyn_register (func_of (first_words b n) c) r) where
        dyn : d ≡ is_dyn_register (func_of (first_words b n) c) (value_of no_handler (handler_of (first_words b n) at)).catch
        dyn = y ∙ ap (λ (a : Handler). is_dyn_register (func_of (first_words b n) c) a.catch) (sym (handler_value b n at h refl refl refl hr))

        pub handler_holds : d ≡ true → Ok tt ≡ verdict_of (handler_faults (func_of (first_words b n) c) (value_of no_handler (handler_of (first_words b n) at)))
        unfolding handler_faults verdict_of
        handler_holds z = ap₂ (λ t u. verdict_of (unless t InvalidHandler ++ unless u CatchNotDyn)) (sym e ∙ k) (sym z ∙ dyn)

        pub handler_plain : d ≡ false → Err CatchNotDyn ≡ verdict_of (handler_faults (func_of (first_words b n) c) (value_of no_handler (handler_of (first_words b n) at)))
        unfolding handler_faults verdict_of
        handler_plain z = ap₂ (λ t u. verdict_of (unless t InvalidHandler ++ unless u CatchNotDyn)) (sym e ∙ k) (sym z ∙ dyn)

pub ruleset handling = (handler_empty, handler_far, handler_astray, handler_last, handler_bad, catch_in_lem, handler_holds, handler_plain)

-- ── all of them ──

-- what is broken in the handler at p
unfoldable pub handler_judged : List ℕ → ℕ → Frame → ℕ → List LoadErrorKind
handler_judged b n c p = handler_faults (func_of (first_words b n) c) (value_of no_handler (handler_of (first_words b n) p))

module _ (b : List ℕ) (n : ℕ) (c : Frame) (x : Framed (first_words b n) c) where
  pub handlers_within : c.body.handlers < n
  handlers_within = list_within handler_of b n c.body.handlers (got_whole x.placed.handlers)

  handlers_count : c.handlers ≡ get_or (words b) c.body.handlers 0
  handlers_count = x.handlers ∙ sym (list_count handler_of b n c.body.handlers (func_of (first_words b n) c).handlers c.body.tables x.placed.handlers refl)

  pub handlers_room : c.body.handlers + 1 + 4 * c.handlers ≤ n
  handlers_room = list_room handler_of 4 handler_takes b n c.body.handlers (got_whole x.placed.handlers) handlers_count

  pub handlers_whole : (i : ℕ) → i < c.handlers → Whole (handler_of (first_words b n) (c.body.handlers + 1 + 4 * i))
  handlers_whole = list_member handler_of 4 handler_takes b n c.body.handlers (got_whole x.placed.handlers) handlers_count

  pub handlers_judged : {r : Verdict} → r ≡ verdict_of (each_faults (handler_judged b n c) 4 c.handlers (c.body.handlers + 1)) → r ≡ verdict_of (handlers_faults (func_of (first_words b n) c))
  unfolding handler_judged handlers_faults list_faults
  handlers_judged k =
      list_judged handler_of 4 handler_takes b n c.body.handlers (got_whole x.placed.handlers) handlers_count (handler_faults (func_of (first_words b n) c)) (handler_judged b n c)
      (read_same handler_of (first_words b n) (handler_faults (func_of (first_words b n) c)) no_handler) k
      ∙ ap (λ l. verdict_of (concat_map (handler_faults (func_of (first_words b n) c)) l)) (value_got [] x.placed.handlers)
