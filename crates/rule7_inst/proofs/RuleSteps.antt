-- An instruction's own rule, one law for each.
use Prim.Native.Nat.{ℕ, ◌+◌, ◌*◌, ◌≤◌, ◌<◌}
use mathlib.Core.Path.{◌≡◌, refl, sym, ap, ap₂, subst, ◌∙◌}
use mathlib.Core.List.{List, [], ◌∷◌, ◌++◌}
use mathlib.Core.Bool.{Bool, true, false, not}
use native.Mathlib.Omega.{arith}
use lib.Dec.{eqb}
use lib.ListN.{length, get_or}
use Rattle.blocks.specs.Blocks.{words}
use Rattle.blocks.specs.Frame.{first_words}
use Rattle.blocks.proofs.FirstWords.{length_first_words}
use Rattle.error.specs.declared.TypeKind.{TypeKind}
use Rattle.error.specs.declared.TypeKind.TheVariants.{Struct, Array, Map, Cell}
use Rattle.error.specs.declared.LoadErrorKind.{LoadErrorKind}
use Rattle.error.specs.declared.LoadErrorKind.TheVariants.{TailCallInTry}
use Rattle.error.specs.Verdict.{Verdict}
use Rattle.std.specs.Prelude.{Ok}
use Rattle.error.specs.Answer.{unless}
use Rattle.error.specs.Verdict.{verdict_of}
use Rattle.reader.specs.ReaderLaws.{stands_in}
use Rattle.sheet.specs.Module.{Module, type_at, kind_word, slot_a, slot_b, slot_c, slot_d, slot_w}
use Rattle.sheet.proofs.FuncCodes.{shapes_codes}
use Rattle.open_layout.specs.Opened.{module_in}
use Rattle.open_sheet.specs.declared.Opened.{Opened}
use Rattle.open_sheet.specs.ReadyLaws.{funcs_in, captures_room}
use Rattle.code.specs.Callee.{func_at, no_func}
use Rattle.code.specs.Opcodes as definitions
use Rattle.code.specs.Code.{is_dyn_register, window_faults, direct_faults, import_call_faults, has_kind, rule_faults}
use Rattle.rule7_words.specs.declared.Inst.{Inst}
use Rattle.rule7_opcodes.specs.declared.Rule.{Rule}
use Rattle.rule7_opcodes.specs.declared.Rule.TheVariants.{Free, NoPromote, PromoteToDyn, TailCall, TailCallIndirect, Call, CallIndirect, CallImport, CallShape, MakeClosure, NewStruct, NewArray, NewMap, NewCell, Concatenate, Slice, NotToRef, Catchable, WideBits}
use Rattle.rule7_words.specs.Insts.{inst}
use Rattle.rule7_opcodes.specs.Rules.{rule_of}
use Rattle.rule_frames.specs.declared.Frame.{Frame}
use Rattle.rule_frames.specs.Frames.{func_of}
use Rattle.rule7_numbers.specs.Numbers.{window_in, promote_faults, dyn_faults, ref_faults, raise_faults, wide_faults, outside_try}
use Rattle.rule7_callees.specs.Callees.{wanted_faults, Checkable}
use Rattle.rule7_inst.specs.Counted.{Reached, rule_in}
use Rattle.rule7_callees.proofs.Words.{value_within, value_dyn, few_args, few_shapes}
use Rattle.rule7_callees.proofs.CalleeSteps.{callee_few, window_of}

ap3 : {A : Type 0} (f : ℕ → ℕ → ℕ → A) {a b c x y z : ℕ} → a ≡ x → b ≡ y → c ≡ z → f a b c ≡ f x y z
ap3 f {a} {b} {c} {x} {y} {z} p q r = ap (λ t. f t b c) p ∙ ap (λ t. f x t c) q ∙ ap (λ t. f x y t) r

-- a verdict, and then that of the handlers
tried : (xs : List LoadErrorKind) (b : Bool) → outside_try (verdict_of xs) b ≡ verdict_of (xs ++ unless (not b) TailCallInTry)
unfolding outside_try verdict_of
tried [] true = refl
tried [] false = refl
tried (k ∷ ks) b = refl

-- the rule of an instruction that makes a kind of type
abbrev making : TypeKind → Rule
making Struct = NewStruct
making Array = NewArray
making Map = NewMap
making Cell = NewCell

made : (k : TypeKind) → rule_of (making k) ≡ definitions.of_kind k
unfolding rule_of
made Struct = refl
made Array = refl
made Map = refl
made Cell = refl

module _ (b w : List ℕ) (o : Opened) (c : Frame) (x : Checkable (first_words b o.layout.words) w o c) (covered : Bool) (i : Inst) where
  abbrev ws : List ℕ
  ws = first_words b o.layout.words

  abbrev m : Module
  m = module_in ws

  abbrev Answer : Rule → Verdict → Type 0
  Answer u r = r ≡ verdict_of (rule_in ws c covered i u)

  window : (first n : ℕ) {r : Verdict} → r ≡ verdict_of (window_in c.regs first n) → r ≡ verdict_of (window_faults (func_of ws c) first n)
  window first n h = window_of ws c first n x.framed h

  module _ {rule : Rule} where
    by : (R : Rule) {r : Verdict} → rule ≡ R → r ≡ verdict_of (rule_in ws c covered i R) → Answer rule r
    by R e h = h ∙ ap (λ y. verdict_of (rule_in ws c covered i y)) (sym e)

    reach : (R : Rule) → rule ≡ R → Reached o c (inst i) (rule_of rule) → Reached o c (inst i) (rule_of R)
    reach R e h = subst (λ y. Reached o c (inst i) (rule_of y)) e h

    -- ── modifiers ──

    pub rule_free : rule ≡ Free → Answer rule (Ok tt)
    unfolding verdict_of rule_in rule_faults rule_of
    rule_free e = by Free e refl

    pub rule_no_promote : {d : ℕ} {r : Verdict} → rule ≡ NoPromote → d ≡ slot_d (inst i) → r ≡ verdict_of (promote_faults d) → Answer rule r
    unfolding rule_in rule_faults rule_of promote_faults
    rule_no_promote e k h = by NoPromote e (h ∙ ap (λ y. verdict_of (promote_faults y)) k)

    pub rule_ref : {d : ℕ} {r : Verdict} → rule ≡ NotToRef → d ≡ slot_d (inst i) → r ≡ verdict_of (ref_faults d) → Answer rule r
    unfolding rule_in rule_faults rule_of ref_faults
    rule_ref e k h = by NotToRef e (h ∙ ap (λ y. verdict_of (ref_faults y)) k)

    pub rule_raise : {d : ℕ} {r : Verdict} → rule ≡ Catchable → d ≡ slot_d (inst i) → r ≡ verdict_of (raise_faults d) → Answer rule r
    unfolding rule_in rule_faults rule_of raise_faults
    rule_raise e k h = by Catchable e (h ∙ ap (λ y. verdict_of (raise_faults y)) k)

    pub rule_wide : {d : ℕ} {r : Verdict} → rule ≡ WideBits → d ≡ slot_d (inst i) → r ≡ verdict_of (wide_faults d) → Answer rule r
    unfolding rule_in rule_faults rule_of wide_faults
    rule_wide e k h = by WideBits e (h ∙ ap (λ y. verdict_of (wide_faults y)) k)

    -- ── a register that is dyn ──

    module _ {a : ℕ} (e : rule ≡ PromoteToDyn) (h : Reached o c (inst i) (rule_of rule)) (k : a ≡ slot_a (inst i)) where
      register : a < length (func_of ws c).regs
      unfolding Reached rule_of
      register = omega (arith, k, reach PromoteToDyn e h, x.framed.regs)

      pub dyn_within : c.body.regs + 1 + a < o.layout.words
      dyn_within = value_within b o.layout.words c.body.regs (func_of ws c).regs c.body.params x.framed.placed.regs a register

      pub rule_dyn : {d s : ℕ} {r : Verdict} → d ≡ slot_d (inst i) → s ≡ get_or (words b) (c.body.regs + 1 + a) 0 → r ≡ verdict_of (dyn_faults (eqb s 12) d) → Answer rule r
      unfolding rule_in rule_faults rule_of dyn_faults is_dyn_register
      rule_dyn {d} l s y =
          by PromoteToDyn e
          (y
          ∙ ap (λ t. verdict_of (dyn_faults t d)) (value_dyn b o.layout.words c.body.regs (func_of ws c).regs c.body.params x.framed.placed.regs a register s ∙ ap (is_dyn_register (func_of ws c)) k)
          ∙ ap (λ t. verdict_of (dyn_faults (is_dyn_register (func_of ws c) (slot_a (inst i))) t)) l)

    -- ── windows ──

    pub rule_indirect : {a d : ℕ} {r : Verdict} → rule ≡ CallIndirect → a ≡ slot_a (inst i) → d ≡ slot_d (inst i) → r ≡ verdict_of (window_in c.regs (a + 1) d) → Answer rule r
    unfolding rule_in rule_faults rule_of
    rule_indirect {a} {d} e k l h = by CallIndirect e (window (a + 1) d h ∙ ap₂ (λ y z. verdict_of (window_faults (func_of ws c) (y + 1) z)) k l)

    pub rule_tail_indirect : {a d : ℕ} {v r : Verdict} → rule ≡ TailCallIndirect → a ≡ slot_a (inst i) → d ≡ slot_d (inst i) → v ≡ verdict_of (window_in c.regs a d) → r ≡ outside_try v covered → Answer rule r
    unfolding rule_in rule_faults rule_of
    rule_tail_indirect {a} {d} e k l h y =
        by TailCallIndirect e
        (y ∙ ap (λ t. outside_try t covered) (window a d h ∙ ap₂ (λ p q. verdict_of (window_faults (func_of ws c) p q)) k l) ∙ tried (window_faults (func_of ws c) (slot_a (inst i)) (slot_d (inst i))) covered)

    pub rule_concatenate : {f d : ℕ} {r : Verdict} → rule ≡ Concatenate → f ≡ slot_b (inst i) → d ≡ slot_d (inst i) → r ≡ verdict_of (window_in c.regs f d) → Answer rule r
    unfolding rule_in rule_faults rule_of
    rule_concatenate {f} {d} e k l h = by Concatenate e (window f d h ∙ ap₂ (λ y z. verdict_of (window_faults (func_of ws c) y z)) k l)

    pub rule_slice : {f : ℕ} {r : Verdict} → rule ≡ Slice → f ≡ slot_c (inst i) → r ≡ verdict_of (window_in c.regs f 2) → Answer rule r
    unfolding rule_in rule_faults rule_of
    rule_slice {f} e k h = by Slice e (window f 2 h ∙ ap (λ y. verdict_of (window_faults (func_of ws c) y 2)) k)

    -- ── a call shape ──

    module _ {k : ℕ} (e : rule ≡ CallShape) (h : Reached o c (inst i) (rule_of rule)) (l : k ≡ slot_b (inst i)) where
      shape : k < length (func_of ws c).shapes
      unfolding Reached rule_of
      shape = omega (arith, l, reach CallShape e h, x.framed.shapes)

      pub shape_room : 7 * o.layout.words + k < length w
      shape_room =
          let s = ((shapes_codes ws).found c.body.shapes (func_of ws c).shapes c.body.captures x.framed.placed.shapes).stands in
          omega (
            arith,
            shape,
            x.ready.room,
            length_first_words b o.layout.words,
            few_shapes ws c.body.shapes (func_of ws c).shapes c.body.captures x.framed.placed.shapes (stands_in ws s),
          )

      module _ {n : ℕ} (s : n ≡ get_or w (7 * o.layout.words + k) 0) where
        measured : n ≡ length (get_or (func_of ws c).shapes k [])
        measured = s ∙ x.shaped.lengths k shape

        pub shape_few : n ≤ 520192
        shape_few =
            omega (
              arith,
              measured,
              x.few,
              length_first_words b o.layout.words,
              few_args ws c.body.shapes (func_of ws c).shapes c.body.captures x.framed.placed.shapes k shape,
            )

        pub rule_shape : {a : ℕ} {r : Verdict} → a ≡ slot_a (inst i) → r ≡ verdict_of (window_in c.regs (a + 1) n) → Answer rule r
        unfolding rule_in rule_faults rule_of
        rule_shape {a} p y =
            by CallShape e
            (window (a + 1) n y ∙ ap₂ (λ q t. verdict_of (window_faults (func_of ws c) (q + 1) t)) p (measured ∙ ap (λ t. length (get_or (func_of ws c).shapes t [])) l))

    -- ── a closure ──

    module _ {g : ℕ} (e : rule ≡ MakeClosure) (h : Reached o c (inst i) (rule_of rule)) (l : g ≡ slot_w (inst i)) where
      pub reach_closure : g < o.counts.funcs
      unfolding Reached rule_of
      reach_closure = omega (arith, l, reach MakeClosure e h)

      pub closure_room : 4 * o.layout.words + g < length w
      closure_room = captures_room ws w o x.ready g reach_closure

      module _ {n : ℕ} (s : n ≡ get_or w (4 * o.layout.words + g) 0) where
        counted : n ≡ length (func_at m g).captures
        unfolding func_at
        counted = s ∙ x.tallied.captured.captures g no_func (funcs_in ws w o x.ready g reach_closure)

        pub closure_few : n ≤ 520192
        closure_few = omega (arith, counted, x.few, callee_few b w o x.ready g reach_closure)

        pub rule_closure : {a : ℕ} {r : Verdict} → a ≡ slot_a (inst i) → r ≡ verdict_of (window_in c.regs (a + 1) n) → Answer rule r
        unfolding rule_in rule_faults rule_of
        rule_closure {a} p y =
            by MakeClosure e
            (window (a + 1) n y ∙ ap₂ (λ q t. verdict_of (window_faults (func_of ws c) (q + 1) t)) p (counted ∙ ap (λ t. length (func_at m t).captures) l))

    -- ── calls ──

    pub reach_tail : {g : ℕ} → rule ≡ TailCall → Reached o c (inst i) (rule_of rule) → g ≡ slot_w (inst i) → g < o.counts.funcs
    unfolding Reached rule_of
    reach_tail e h l = omega (arith, l, reach TailCall e h)

    pub reach_call : {g : ℕ} → rule ≡ Call → Reached o c (inst i) (rule_of rule) → g ≡ slot_w (inst i) → g < o.counts.funcs
    unfolding Reached rule_of
    reach_call e h l = omega (arith, l, reach Call e h)

    pub reach_import : {j : ℕ} → rule ≡ CallImport → Reached o c (inst i) (rule_of rule) → j ≡ slot_w (inst i) → j < o.counts.imports
    unfolding Reached rule_of
    reach_import e h l = omega (arith, l, reach CallImport e h)

    pub rule_tail : {a d g : ℕ} {v r : Verdict} → rule ≡ TailCall → a ≡ slot_a (inst i) → d ≡ slot_d (inst i) → g ≡ slot_w (inst i) → v ≡ verdict_of (direct_faults m (func_of ws c) g a d) → r ≡ outside_try v covered → Answer rule r
    unfolding rule_in rule_faults rule_of
    rule_tail {a} {d} {g} e k l p h y =
        by TailCall e
        (y
        ∙ ap (λ t. outside_try t covered) (h ∙ ap3 (λ q s t. verdict_of (direct_faults m (func_of ws c) q s t)) p k l)
        ∙ tried (direct_faults m (func_of ws c) (slot_w (inst i)) (slot_a (inst i)) (slot_d (inst i))) covered)

    pub rule_call : {a d g : ℕ} {r : Verdict} → rule ≡ Call → a ≡ slot_a (inst i) → d ≡ slot_d (inst i) → g ≡ slot_w (inst i) → r ≡ verdict_of (direct_faults m (func_of ws c) g (a + 1) d) → Answer rule r
    unfolding rule_in rule_faults rule_of
    rule_call {a} {d} {g} e k l p h = by Call e (h ∙ ap3 (λ q s t. verdict_of (direct_faults m (func_of ws c) q (s + 1) t)) p k l)

    pub rule_import : {a d j : ℕ} {r : Verdict} → rule ≡ CallImport → a ≡ slot_a (inst i) → d ≡ slot_d (inst i) → j ≡ slot_w (inst i) →
        r ≡ verdict_of (import_call_faults m (func_of ws c) j (a + 1) d) → Answer rule r
    unfolding rule_in rule_faults rule_of
    rule_import {a} {d} {j} e k l p h = by CallImport e (h ∙ ap3 (λ q s t. verdict_of (import_call_faults m (func_of ws c) q (s + 1) t)) p k l)

    -- ── a kind of type ──

    module _ (k : TypeKind) {f : ℕ} (e : rule ≡ making k) where
      pub reach_kind : Reached o c (inst i) (rule_of rule) → f ≡ slot_b (inst i) → f < c.type_refs
      reach_kind h l =
          let z : slot_b (inst i) < c.type_refs = unfold Reached in subst (Reached o c (inst i)) (made k) (reach (making k) e h) in
          omega (arith, l, z)

      pub rule_kind : {r : Verdict} → f ≡ slot_b (inst i) → r ≡ verdict_of (wanted_faults k (kind_word (type_at m.types (get_or (func_of ws c).type_refs f 0)))) → Answer rule r
      unfolding rule_in rule_faults wanted_faults has_kind
      rule_kind {r} l h =
          let z : r ≡ verdict_of (rule_faults m (func_of ws c) covered (inst i) (definitions.of_kind k)) =
          h ∙ ap (λ y. verdict_of (wanted_faults k (kind_word (type_at m.types (get_or (func_of ws c).type_refs y 0))))) l in
          by (making k) e (z ∙ ap (λ u. verdict_of (rule_faults m (func_of ws c) covered (inst i) u)) (sym (made k)))
