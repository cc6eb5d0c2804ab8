-- The fields of an instruction, kind by kind and slot by slot.
use Prim.Native.Nat.{ℕ}
use mathlib.Core.Path.{◌≡◌, refl, sym, ap, ◌∙◌}
use mathlib.Core.List.{List, [], ◌∷◌, ◌++◌}
use mathlib.Core.Bool.{Bool, true, false}
use native.Mathlib.Omega.{arith}
use lib.Dec.{ltb}
use lib.ListN.{get_or}
use Rattle.error.specs.declared.What.TheVariants.{Functions, Constants, Registers, Imports, Globals, BranchTargets, Tables, Names, TypeRefs, Captures, CallShapes}
use Rattle.error.specs.declared.LoadErrorKind.{LoadErrorKind}
use Rattle.error.specs.Verdict.{Verdict}
use Rattle.std.specs.Prelude.{Err, Ok}
use Rattle.error.specs.Answer.{unless, in_range}
use Rattle.error.specs.Verdict.{verdict_of}
use Rattle.error.specs.VerdictLaws.{verdict_then, verdict_stop}
use Rattle.sheet.specs.Module.{opcode, slot_a, slot_b, slot_c, slot_w}
use Rattle.code.specs.declared.FieldKind.{FieldKind}
use Rattle.code.specs.Opcodes.{row}
use Rattle.open_sheet.specs.declared.Opened.{Opened}
use Rattle.rule7_words.specs.declared.Inst.{Inst}
use Rattle.rule7_kinds.specs.declared.Slot.{Slot}
use Rattle.rule7_kinds.specs.declared.Slot.TheVariants.{A, B, W, C}
use Rattle.rule7_words.specs.Insts.{inst}
use Rattle.rule7_kinds.specs.Slots.{kind_in, slots_of}
use Rattle.rule_frames.specs.declared.Frame.{Frame}
use Rattle.rule7_fields.specs.Fields.{no_faults, kind_faults, slot_of, slot_faults, slots_faults}

-- ── by kind ──

module _ (o : Opened) (c : Frame) {kind : FieldKind} (i : ℕ) where
  of_kind_lem : {r : Verdict} → (K : FieldKind) → kind ≡ K → r ≡ verdict_of (kind_faults o c K i) → r ≡ verdict_of (kind_faults o c kind i)
  of_kind_lem K e h = h ∙ ap (λ k. verdict_of (kind_faults o c k i)) (sym e)

  pub kind_unused : kind ≡ FieldKind.Unused → Ok tt ≡ verdict_of (kind_faults o c kind i)
  unfolding verdict_of kind_faults
  kind_unused e = sym (ap (λ k. verdict_of (kind_faults o c k i)) e)

  pub kind_reg : {r : Verdict} → kind ≡ FieldKind.Reg → r ≡ verdict_of (in_range Registers c.regs i) → r ≡ verdict_of (kind_faults o c kind i)
  kind_reg e h = of_kind_lem FieldKind.Reg e (unfold kind_faults in h)

  pub kind_target : {r : Verdict} → kind ≡ FieldKind.Target → r ≡ verdict_of (in_range BranchTargets c.code i) → r ≡ verdict_of (kind_faults o c kind i)
  kind_target e h = of_kind_lem FieldKind.Target e (unfold kind_faults in h)

  pub kind_const : {r : Verdict} → kind ≡ FieldKind.Const → r ≡ verdict_of (in_range Constants o.counts.consts i) → r ≡ verdict_of (kind_faults o c kind i)
  kind_const e h = of_kind_lem FieldKind.Const e (unfold kind_faults in h)

  pub kind_func : {r : Verdict} → kind ≡ FieldKind.Func → r ≡ verdict_of (in_range Functions o.counts.funcs i) → r ≡ verdict_of (kind_faults o c kind i)
  kind_func e h = of_kind_lem FieldKind.Func e (unfold kind_faults in h)

  pub kind_import : {r : Verdict} → kind ≡ FieldKind.Import → r ≡ verdict_of (in_range Imports o.counts.imports i) → r ≡ verdict_of (kind_faults o c kind i)
  kind_import e h = of_kind_lem FieldKind.Import e (unfold kind_faults in h)

  pub kind_global : {r : Verdict} → kind ≡ FieldKind.Global → r ≡ verdict_of (in_range Globals o.counts.globals i) → r ≡ verdict_of (kind_faults o c kind i)
  kind_global e h = of_kind_lem FieldKind.Global e (unfold kind_faults in h)

  pub kind_table : {r : Verdict} → kind ≡ FieldKind.Table → r ≡ verdict_of (in_range Tables c.tables i) → r ≡ verdict_of (kind_faults o c kind i)
  kind_table e h = of_kind_lem FieldKind.Table e (unfold kind_faults in h)

  pub kind_name : {r : Verdict} → kind ≡ FieldKind.Name → r ≡ verdict_of (in_range Names c.names i) → r ≡ verdict_of (kind_faults o c kind i)
  kind_name e h = of_kind_lem FieldKind.Name e (unfold kind_faults in h)

  pub kind_type_ref : {r : Verdict} → kind ≡ FieldKind.TypeRef → r ≡ verdict_of (in_range TypeRefs c.type_refs i) → r ≡ verdict_of (kind_faults o c kind i)
  kind_type_ref e h = of_kind_lem FieldKind.TypeRef e (unfold kind_faults in h)

  pub kind_upval : {r : Verdict} → kind ≡ FieldKind.Upval → r ≡ verdict_of (in_range Captures c.captures i) → r ≡ verdict_of (kind_faults o c kind i)
  kind_upval e h = of_kind_lem FieldKind.Upval e (unfold kind_faults in h)

  pub kind_shape : {r : Verdict} → kind ≡ FieldKind.Shape → r ≡ verdict_of (in_range CallShapes c.shapes i) → r ≡ verdict_of (kind_faults o c kind i)
  kind_shape e h = of_kind_lem FieldKind.Shape e (unfold kind_faults in h)

pub ruleset kinds = (kind_unused, kind_reg, kind_target, kind_const, kind_func, kind_import, kind_global, kind_table, kind_name, kind_type_ref, kind_upval, kind_shape)

-- ── tests by kind ──

tested : (b : Bool) (k : LoadErrorKind) → b ≡ no_faults (unless b k)
unfolding no_faults
tested true k = refl
tested false k = refl

module _ (o : Opened) (c : Frame) {kind : FieldKind} (i : ℕ) where
  as_test : {r : Bool} (K : FieldKind) → kind ≡ K → r ≡ no_faults (kind_faults o c K i) → r ≡ no_faults (kind_faults o c kind i)
  as_test K e h = h ∙ ap (λ k. no_faults (kind_faults o c k i)) (sym e)

  pub test_unused : kind ≡ FieldKind.Unused → true ≡ no_faults (kind_faults o c kind i)
  unfolding no_faults kind_faults
  test_unused e = as_test FieldKind.Unused e refl

  pub test_reg : kind ≡ FieldKind.Reg → ltb i c.regs ≡ no_faults (kind_faults o c kind i)
  test_reg e = as_test FieldKind.Reg e (unfold kind_faults in tested (ltb i c.regs) _)

  pub test_target : kind ≡ FieldKind.Target → ltb i c.code ≡ no_faults (kind_faults o c kind i)
  test_target e = as_test FieldKind.Target e (unfold kind_faults in tested (ltb i c.code) _)

  pub test_const : kind ≡ FieldKind.Const → ltb i o.counts.consts ≡ no_faults (kind_faults o c kind i)
  test_const e = as_test FieldKind.Const e (unfold kind_faults in tested (ltb i o.counts.consts) _)

  pub test_func : kind ≡ FieldKind.Func → ltb i o.counts.funcs ≡ no_faults (kind_faults o c kind i)
  test_func e = as_test FieldKind.Func e (unfold kind_faults in tested (ltb i o.counts.funcs) _)

  pub test_import : kind ≡ FieldKind.Import → ltb i o.counts.imports ≡ no_faults (kind_faults o c kind i)
  test_import e = as_test FieldKind.Import e (unfold kind_faults in tested (ltb i o.counts.imports) _)

  pub test_global : kind ≡ FieldKind.Global → ltb i o.counts.globals ≡ no_faults (kind_faults o c kind i)
  test_global e = as_test FieldKind.Global e (unfold kind_faults in tested (ltb i o.counts.globals) _)

  pub test_table : kind ≡ FieldKind.Table → ltb i c.tables ≡ no_faults (kind_faults o c kind i)
  test_table e = as_test FieldKind.Table e (unfold kind_faults in tested (ltb i c.tables) _)

  pub test_name : kind ≡ FieldKind.Name → ltb i c.names ≡ no_faults (kind_faults o c kind i)
  test_name e = as_test FieldKind.Name e (unfold kind_faults in tested (ltb i c.names) _)

  pub test_type_ref : kind ≡ FieldKind.TypeRef → ltb i c.type_refs ≡ no_faults (kind_faults o c kind i)
  test_type_ref e = as_test FieldKind.TypeRef e (unfold kind_faults in tested (ltb i c.type_refs) _)

  pub test_upval : kind ≡ FieldKind.Upval → ltb i c.captures ≡ no_faults (kind_faults o c kind i)
  test_upval e = as_test FieldKind.Upval e (unfold kind_faults in tested (ltb i c.captures) _)

  pub test_shape : kind ≡ FieldKind.Shape → ltb i c.shapes ≡ no_faults (kind_faults o c kind i)
  test_shape e = as_test FieldKind.Shape e (unfold kind_faults in tested (ltb i c.shapes) _)

pub ruleset tests = (test_unused, test_reg, test_target, test_const, test_func, test_import, test_global, test_table, test_name, test_type_ref, test_upval, test_shape)

-- ── by slot ──

module _ (i : Inst) {slot : Slot} {r : ℕ} where
  pub value_a : slot ≡ A → r ≡ slot_a (inst i) → r ≡ slot_of slot (inst i)
  unfolding slot_of
  value_a e h = h ∙ ap (λ s. slot_of s (inst i)) (sym e)

  pub value_b : slot ≡ B → r ≡ slot_b (inst i) → r ≡ slot_of slot (inst i)
  unfolding slot_of
  value_b e h = h ∙ ap (λ s. slot_of s (inst i)) (sym e)

  pub value_w : slot ≡ W → r ≡ slot_w (inst i) → r ≡ slot_of slot (inst i)
  unfolding slot_of
  value_w e h = h ∙ ap (λ s. slot_of s (inst i)) (sym e)

  pub value_c : slot ≡ C → r ≡ slot_c (inst i) → r ≡ slot_of slot (inst i)
  unfolding slot_of
  value_c e h = h ∙ ap (λ s. slot_of s (inst i)) (sym e)

pub ruleset values = (value_a, value_b, value_w, value_c)

pub slot_judged : (o : Opened) (c : Frame) (i : Inst) (slot : Slot) {code v : ℕ} {kind : FieldKind} {r : Verdict} → code ≡ opcode (inst i) → kind ≡ kind_in (row code) slot
    → v ≡ slot_of slot (inst i) → r ≡ verdict_of (kind_faults o c kind v) → r ≡ verdict_of (slot_faults o c i slot)
unfolding slot_faults
slot_judged o c i slot {code} {v} {kind} e k h x =
    x ∙ ap (λ k. verdict_of (kind_faults o c k v)) k ∙ ap (λ w. verdict_of (kind_faults o c (kind_in (row code) slot) w)) h
    ∙ ap (λ w. verdict_of (kind_faults o c (kind_in (row w) slot) (slot_of slot (inst i)))) e

module _ (o : Opened) (c : Frame) (i : Inst) {a : Verdict} where
  pub slots_a : (k : LoadErrorKind) → a ≡ Err k → a ≡ verdict_of (slot_faults o c i A) → Err k ≡ verdict_of (slots_faults o c i)
  unfolding slots_faults
  slots_a k e h =
      verdict_stop (slot_faults o c i A ++ slot_faults o c i B ++ slot_faults o c i W) (slot_faults o c i C) k refl
      (verdict_stop (slot_faults o c i A ++ slot_faults o c i B) (slot_faults o c i W) k refl (verdict_stop (slot_faults o c i A) (slot_faults o c i B) k e h))

  module _ (ea : a ≡ Ok tt) (ha : a ≡ verdict_of (slot_faults o c i A)) where
    pub slots_b : {b : Verdict} (k : LoadErrorKind) → b ≡ Err k → b ≡ verdict_of (slot_faults o c i B) → Err k ≡ verdict_of (slots_faults o c i)
    unfolding slots_faults
    slots_b k e h =
        verdict_stop (slot_faults o c i A ++ slot_faults o c i B ++ slot_faults o c i W) (slot_faults o c i C) k refl
        (verdict_stop (slot_faults o c i A ++ slot_faults o c i B) (slot_faults o c i W) k e (verdict_then (slot_faults o c i A) (slot_faults o c i B) ea ha h))

    module _ {b : Verdict} (eb : b ≡ Ok tt) (hb : b ≡ verdict_of (slot_faults o c i B)) where
      pub slots_w : {w : Verdict} (k : LoadErrorKind) → w ≡ Err k → w ≡ verdict_of (slot_faults o c i W) → Err k ≡ verdict_of (slots_faults o c i)
      unfolding slots_faults
      slots_w k e h =
          verdict_stop (slot_faults o c i A ++ slot_faults o c i B ++ slot_faults o c i W) (slot_faults o c i C) k e
          (verdict_then (slot_faults o c i A ++ slot_faults o c i B) (slot_faults o c i W) eb (verdict_then (slot_faults o c i A) (slot_faults o c i B) ea ha hb) h)

      pub slots_c : {w r : Verdict} → w ≡ Ok tt → w ≡ verdict_of (slot_faults o c i W) → r ≡ verdict_of (slot_faults o c i C) → r ≡ verdict_of (slots_faults o c i)
      unfolding slots_faults
      slots_c e h x =
          verdict_then (slot_faults o c i A ++ slot_faults o c i B ++ slot_faults o c i W) (slot_faults o c i C) e
          (verdict_then (slot_faults o c i A ++ slot_faults o c i B) (slot_faults o c i W) eb (verdict_then (slot_faults o c i A) (slot_faults o c i B) ea ha hb) h) x

-- ── all slots tested ──

both : (xs ys : List LoadErrorKind) → no_faults xs ≡ true → no_faults (xs ++ ys) ≡ no_faults ys
unfolding no_faults
both [] ys e = refl
both (x ∷ xs) ys e = let z : ◌≡◌ {A = ℕ} 0 1 = cc in absurd (omega arith)

broken_left : (xs ys : List LoadErrorKind) → no_faults xs ≡ false → no_faults (xs ++ ys) ≡ false
unfolding no_faults
broken_left [] ys e = let z : ◌≡◌ {A = ℕ} 0 1 = cc in absurd (omega arith)
broken_left (x ∷ xs) ys e = refl

module _ (o : Opened) (c : Frame) (i : Inst) {code : ℕ} {kinds : List FieldKind} (e : code ≡ opcode (inst i)) (q : kinds ≡ slots_of (row code)) (d : FieldKind) where
  slot_tested : (slot : Slot) (k : ℕ) {v : ℕ} {r : Bool} → get_or (slots_of (row code)) k d ≡ kind_in (row code) slot → v ≡ slot_of slot (inst i)
      → r ≡ no_faults (kind_faults o c (get_or kinds k d) v) → r ≡ no_faults (slot_faults o c i slot)
  unfolding slot_faults
  slot_tested slot k {v} p h t =
      t ∙ ap (λ l. no_faults (kind_faults o c (get_or l k d) v)) q ∙ ap (λ f. no_faults (kind_faults o c f v)) p ∙ ap (λ w. no_faults (kind_faults o c (kind_in (row code) slot) w)) h
      ∙ ap (λ w. no_faults (kind_faults o c (kind_in (row w) slot) (slot_of slot (inst i)))) e

  module _ {a : ℕ} {ra : Bool} (ha : a ≡ slot_a (inst i)) (ta : ra ≡ no_faults (kind_faults o c (get_or kinds 0 d) a)) where
    by_a : ra ≡ no_faults (slot_faults o c i A)
    unfolding slots_of kind_in slot_of
    by_a = slot_tested A 0 refl ha ta

    pub fails_a : ra ≡ false → false ≡ no_faults (slots_faults o c i)
    unfolding slots_faults
    fails_a n =
        let x = slot_faults o c i A in
        let y = slot_faults o c i B in
        let z = slot_faults o c i W in
        sym (broken_left (x ++ y ++ z) (slot_faults o c i C) (broken_left (x ++ y) z (broken_left x y (sym by_a ∙ n))))

    module _ (na : ra ≡ true) {b : ℕ} {rb : Bool} (hb : b ≡ slot_b (inst i)) (tb : rb ≡ no_faults (kind_faults o c (get_or kinds 1 d) b)) where
      by_b : rb ≡ no_faults (slot_faults o c i A ++ slot_faults o c i B)
      unfolding slots_of kind_in slot_of
      by_b = slot_tested B 1 refl hb tb ∙ sym (both (slot_faults o c i A) (slot_faults o c i B) (sym by_a ∙ na))

      pub fails_b : rb ≡ false → false ≡ no_faults (slots_faults o c i)
      unfolding slots_faults
      fails_b n =
          let x = slot_faults o c i A ++ slot_faults o c i B in
          let z = slot_faults o c i W in
          sym (broken_left (x ++ z) (slot_faults o c i C) (broken_left x z (sym by_b ∙ n)))

      module _ (nb : rb ≡ true) {w : ℕ} {rt : Bool} (hw : w ≡ slot_w (inst i)) (tw : rt ≡ no_faults (kind_faults o c (get_or kinds 2 d) w)) where
        by_w : rt ≡ no_faults (slot_faults o c i A ++ slot_faults o c i B ++ slot_faults o c i W)
        unfolding slots_of kind_in slot_of
        by_w = slot_tested W 2 refl hw tw ∙ sym (both (slot_faults o c i A ++ slot_faults o c i B) (slot_faults o c i W) (sym by_b ∙ nb))

        pub fails_w : rt ≡ false → false ≡ no_faults (slots_faults o c i)
        unfolding slots_faults
        fails_w n = sym (broken_left (slot_faults o c i A ++ slot_faults o c i B ++ slot_faults o c i W) (slot_faults o c i C) (sym by_w ∙ n))

        pub by_c : rt ≡ true → {v : ℕ} {r : Bool} → v ≡ slot_c (inst i) → r ≡ no_faults (kind_faults o c (get_or kinds 3 d) v) → r ≡ no_faults (slots_faults o c i)
        unfolding slots_of kind_in slot_of slots_faults
        by_c n h t = slot_tested C 3 refl h t ∙ sym (both (slot_faults o c i A ++ slot_faults o c i B ++ slot_faults o c i W) (slot_faults o c i C) (sym by_w ∙ n))
