-- An instruction whose fields hold: what its rule names is there; and both verdicts as one.
use Prim.Native.Nat.{ℕ, ◌≤◌, ◌<◌}
use mathlib.Core.Path.{◌≡◌, refl, sym, ap, ap₂, subst, ◌∙◌}
use mathlib.Core.List.{List, [], ◌∷◌, ◌++◌}
use mathlib.Core.Bool.{Bool, true, false}
use native.Mathlib.Omega.{arith}
use lib.Dec.{eqb, ltb}
use lib.ListN.{get_or}
use borrow.Author.Tests.{eqb-true, ltb-true}
use Rattle.lists.specs.Lists.{all_of}
use Rattle.lists.specs.ListLaws.{all_at}
use Rattle.error.specs.declared.What.{What}
use Rattle.error.specs.declared.What.TheVariants.{Functions, Constants, Registers, Imports, Globals, BranchTargets, Tables, Names, TypeRefs, Captures, CallShapes}
use Rattle.error.specs.declared.LoadErrorKind.{LoadErrorKind}
use Rattle.error.specs.declared.LoadErrorKind.TheVariants.{OutOfRange}
use Rattle.error.specs.Verdict.{Verdict}
use Rattle.error.specs.Answer.{unless, in_range}
use Rattle.error.specs.Verdict.{verdict_of}
use Rattle.sheet.specs.Module.{opcode, slot_a, slot_b, slot_c, slot_w}
use Rattle.sheet.specs.Module
use Rattle.open_layout.specs.Opened.{module_in}
use Rattle.open_sheet.specs.declared.Opened.{Opened}
use Rattle.open_sheet.specs.Ready.{Opens, Ready}
use Rattle.open_sheet.specs.ReadyLaws.{count_consts, count_imports, count_globals, count_funcs}
use Rattle.code.specs.declared.FieldKind.{FieldKind}
use Rattle.code.specs.Opcodes.{Row, rows, row, step}
use Rattle.code.specs.Opcodes as definitions
use Rattle.code.specs.Code.{field_faults, fields_faults, rule_faults}
use Rattle.rule7_words.specs.declared.Inst.{Inst}
use Rattle.rule7_opcodes.specs.declared.Rule.{Rule}
use Rattle.rule7_words.specs.Insts.{inst}
use Rattle.rule7_kinds.specs.Slots.{kind_in}
use Rattle.rule7_opcodes.specs.Rules.{rule_of}
use Rattle.rule_frames.specs.declared.Frame.{Frame}
use Rattle.rule_frames.specs.Frames.{func_of, Framed, Shaped}
use Rattle.rule7_fields.specs.Fields.{no_faults, kind_faults, slot_of, slot_faults, slots_faults}
use Rattle.rule7_arguments.specs.Arguments.{Tallied}
use Rattle.rule7_callees.specs.Callees.{Checkable}
use Rattle.rule7_inst.specs.Counted.{Reached, rule_in}

-- ── counts as the definitions have them ──

module _ (ws : List ℕ) (o : Opened) (x : Opens ws o) (c : Frame) (y : Framed ws c) where
  counted : (k : FieldKind) (i : ℕ) → kind_faults o c k i ≡ field_faults (module_in ws) (func_of ws c) k i
  unfolding kind_faults field_faults
  counted FieldKind.Unused i = refl
  counted FieldKind.Reg i = ap (λ n. in_range Registers n i) y.regs
  counted FieldKind.Target i = ap (λ n. in_range BranchTargets n i) y.code
  counted FieldKind.Const i = ap (λ n. in_range Constants n i) (count_consts ws o x)
  counted FieldKind.Func i = ap (λ n. in_range Functions n i) (count_funcs ws o x)
  counted FieldKind.Import i = ap (λ n. in_range Imports n i) (count_imports ws o x)
  counted FieldKind.Global i = ap (λ n. in_range Globals n i) (count_globals ws o x)
  counted FieldKind.Table i = ap (λ n. in_range Tables n i) y.tables
  counted FieldKind.Name i = ap (λ n. in_range Names n i) y.names
  counted FieldKind.TypeRef i = ap (λ n. in_range TypeRefs n i) y.type_refs
  counted FieldKind.Upval i = ap (λ n. in_range Captures n i) y.captures
  counted FieldKind.Shape i = ap (λ n. in_range CallShapes n i) y.shapes

  fields_counted : (i : Inst) → slots_faults o c i ≡ fields_faults (module_in ws) (func_of ws c) (row (opcode (inst i))) (inst i)
  unfolding slots_faults slot_faults slot_of kind_in fields_faults
  fields_counted i =
      let r = row (opcode (inst i)) in
      ap₂ ◌++◌
      (ap₂ ◌++◌ (ap₂ ◌++◌ (counted r.A (slot_a (inst i))) (counted r.B (slot_b (inst i)))) (counted r.W (slot_w (inst i))))
      (counted r.C (slot_c (inst i)))

-- ── what a rule names is a field ──

number_of : FieldKind → ℕ
number_of FieldKind.Unused = 0
number_of FieldKind.Reg = 1
number_of FieldKind.Target = 2
number_of FieldKind.Const = 3
number_of FieldKind.Func = 4
number_of FieldKind.Import = 5
number_of FieldKind.Global = 6
number_of FieldKind.Table = 7
number_of FieldKind.Name = 8
number_of FieldKind.TypeRef = 9
number_of FieldKind.Upval = 10
number_of FieldKind.Shape = 11

abbrev kind_numbered : ℕ → FieldKind
kind_numbered n =
    get_or
    (FieldKind.Unused
    ∷ FieldKind.Reg
    ∷ FieldKind.Target
    ∷ FieldKind.Const
    ∷ FieldKind.Func
    ∷ FieldKind.Import
    ∷ FieldKind.Global
    ∷ FieldKind.Table
    ∷ FieldKind.Name
    ∷ FieldKind.TypeRef
    ∷ FieldKind.Upval
    ∷ FieldKind.Shape
    ∷ []) n FieldKind.Unused

numbered : (k : FieldKind) → kind_numbered (number_of k) ≡ k
unfolding number_of
numbered FieldKind.Unused = refl
numbered FieldKind.Reg = refl
numbered FieldKind.Target = refl
numbered FieldKind.Const = refl
numbered FieldKind.Func = refl
numbered FieldKind.Import = refl
numbered FieldKind.Global = refl
numbered FieldKind.Table = refl
numbered FieldKind.Name = refl
numbered FieldKind.TypeRef = refl
numbered FieldKind.Upval = refl
numbered FieldKind.Shape = refl

is_kind : (k : FieldKind) (n : ℕ) → eqb (number_of k) n ≡ true → k ≡ kind_numbered n
is_kind k n e = sym (numbered k) ∙ ap kind_numbered (eqb-true (number_of k) n e)

-- the fields that a rule relies on
names : definitions.Rule → Row → Bool
names definitions.free r = true
names definitions.no_promote r = true
names definitions.promote_to_dyn r = eqb (number_of r.A) 1
names definitions.tail_call r = eqb (number_of r.W) 4
names definitions.tail_call_indirect r = true
names definitions.call r = eqb (number_of r.W) 4
names definitions.call_indirect r = true
names definitions.call_import r = eqb (number_of r.W) 5
names definitions.call_shape r = eqb (number_of r.B) 11
names definitions.make_closure r = eqb (number_of r.W) 4
names (definitions.of_kind k) r = eqb (number_of r.B) 9
names definitions.concatenate r = true
names definitions.slice r = true
names definitions.not_to_ref r = true
names definitions.catchable r = true
names definitions.wide_bits r = true

abbrev named : Row → Bool
named r = names r.rule r

all_named : all_of named rows ≡ true
unfolding names number_of
all_named = refl

row_named : (code : ℕ) → code < 35 → named (row code) ≡ true
unfolding row
row_named code h = all_at named rows code (step FieldKind.Unused FieldKind.Unused FieldKind.Unused FieldKind.Unused definitions.free) all_named h

in_range_lem : (what : What) (n i : ℕ) → in_range what n i ≡ [] → i < n
in_range_lem what n i e = go (ltb i n) refl e
  where
    go : (t : Bool) → ltb i n ≡ t → unless t (OutOfRange what i) ≡ [] → i < n
    go true k e = ltb-true i n k
    go false k e = let z : ◌≡◌ {A = ℕ} 0 1 = cc in absurd (omega arith)

module _ (o : Opened) (c : Frame) (k : FieldKind) (v : ℕ) (h : kind_faults o c k v ≡ []) where
  as_kind : (n : ℕ) → eqb (number_of k) n ≡ true → kind_faults o c (kind_numbered n) v ≡ []
  as_kind n e = ap (λ y. kind_faults o c y v) (sym (is_kind k n e)) ∙ h

  reg_in : eqb (number_of k) 1 ≡ true → v < c.regs
  reg_in e = in_range_lem Registers c.regs v (unfold kind_faults in as_kind 1 e)

  func_in : eqb (number_of k) 4 ≡ true → v < o.counts.funcs
  func_in e = in_range_lem Functions o.counts.funcs v (unfold kind_faults in as_kind 4 e)

  import_in : eqb (number_of k) 5 ≡ true → v < o.counts.imports
  import_in e = in_range_lem Imports o.counts.imports v (unfold kind_faults in as_kind 5 e)

  type_ref_in : eqb (number_of k) 9 ≡ true → v < c.type_refs
  type_ref_in e = in_range_lem TypeRefs c.type_refs v (unfold kind_faults in as_kind 9 e)

  shape_in : eqb (number_of k) 11 ≡ true → v < c.shapes
  shape_in e = in_range_lem CallShapes c.shapes v (unfold kind_faults in as_kind 11 e)

module _ (o : Opened) (c : Frame) (i : Module.Inst) (r : Row) (ha : kind_faults o c r.A (slot_a i) ≡ []) (hb : kind_faults o c r.B (slot_b i) ≡ []) (hw : kind_faults o c r.W (slot_w i) ≡ []) where
  reached : (u : definitions.Rule) → names u r ≡ true → Reached o c i u
  unfolding Reached names
  reached definitions.free e = tt
  reached definitions.no_promote e = tt
  reached definitions.promote_to_dyn e = reg_in o c r.A (slot_a i) ha e
  reached definitions.tail_call e = func_in o c r.W (slot_w i) hw e
  reached definitions.tail_call_indirect e = tt
  reached definitions.call e = func_in o c r.W (slot_w i) hw e
  reached definitions.call_indirect e = tt
  reached definitions.call_import e = import_in o c r.W (slot_w i) hw e
  reached definitions.call_shape e = shape_in o c r.B (slot_b i) hb e
  reached definitions.make_closure e = func_in o c r.W (slot_w i) hw e
  reached (definitions.of_kind k) e = type_ref_in o c r.B (slot_b i) hb e
  reached definitions.concatenate e = tt
  reached definitions.slice e = tt
  reached definitions.not_to_ref e = tt
  reached definitions.catchable e = tt
  reached definitions.wide_bits e = tt

left_none : (xs ys : List LoadErrorKind) → xs ++ ys ≡ [] → xs ≡ []
left_none [] ys e = refl
left_none (x ∷ xs) ys e = let z : ◌≡◌ {A = ℕ} 0 1 = cc in absurd (omega arith)

right_none : (xs ys : List LoadErrorKind) → xs ++ ys ≡ [] → ys ≡ []
right_none [] ys e = e
right_none (x ∷ xs) ys e = let z : ◌≡◌ {A = ℕ} 0 1 = cc in absurd (omega arith)

none_left : (xs : List LoadErrorKind) → no_faults xs ≡ true → xs ≡ []
unfolding no_faults
none_left [] e = refl
none_left (x ∷ xs) e = let z : ◌≡◌ {A = ℕ} 0 1 = cc in absurd (omega arith)

some_left : (xs ys : List LoadErrorKind) → no_faults xs ≡ false → verdict_of xs ≡ verdict_of (xs ++ ys)
unfolding no_faults verdict_of
some_left [] ys e = let z : ◌≡◌ {A = ℕ} 0 1 = cc in absurd (omega arith)
some_left (x ∷ xs) ys e = refl

pub fields_reach : (o : Opened) (c : Frame) (i : Inst) {v : Bool} {code : ℕ} (rule : Rule) → opcode (inst i) < 35 → v ≡ true → v ≡ no_faults (slots_faults o c i) → code ≡ opcode (inst i)
    → rule_of rule ≡ (row code).rule → Reached o c (inst i) (rule_of rule)
unfolding slots_faults slot_faults slot_of kind_in
fields_reach o c i {v} {code} rule l e h k u =
    let r = row (opcode (inst i)) in
    let a = kind_faults o c r.A (slot_a (inst i)) in
    let b = kind_faults o c r.B (slot_b (inst i)) in
    let w = kind_faults o c r.W (slot_w (inst i)) in
    let d = kind_faults o c r.C (slot_c (inst i)) in
    let three = left_none (a ++ b ++ w) d (none_left (slots_faults o c i) (sym h ∙ e)) in
    let two = left_none (a ++ b) w three in
    subst (Reached o c (inst i)) (sym (u ∙ ap (λ n. (row n).rule) k))
    (reached o c (inst i) r (left_none a b two) (right_none a b two) (right_none (a ++ b) w three) r.rule (row_named (opcode (inst i)) l))

pub checkable : (ws w : List ℕ) (o : Opened) (c : Frame) → Ready ws w o → Framed ws c → Tallied ws w o → Shaped ws w o c →
    o.layout.words ≤ 520192 → Checkable ws w o c
checkable ws w o c a b d e f = record { ready = a; framed = b; tallied = d; shaped = e; few = f }

-- ── fields, then the rule ──

module _ (ws : List ℕ) (o : Opened) (x : Opens ws o) (c : Frame) (y : Framed ws c) (covered : Bool) where
  abbrev Whole-verdict : Verdict → Module.Inst → Type 0
  Whole-verdict r j = r ≡ verdict_of (fields_faults (module_in ws) (func_of ws c) (row (opcode j)) j ++ rule_faults (module_in ws) (func_of ws c) covered j (row (opcode j)).rule)

  module _ (i : Inst) {I : Module.Inst} (z : inst i ≡ I) {v : Bool} (h : v ≡ no_faults (slots_faults o c i)) where
    abbrev fields : List LoadErrorKind
    fields = fields_faults (module_in ws) (func_of ws c) (row (opcode (inst i))) (inst i)

    tested : v ≡ no_faults fields
    tested = h ∙ ap no_faults (fields_counted ws o x c y i)

    pub inst_fields : {r : Verdict} → v ≡ false → r ≡ verdict_of (slots_faults o c i) → Whole-verdict r I
    inst_fields {r} e k = subst (Whole-verdict r) z (k ∙ ap verdict_of (fields_counted ws o x c y i) ∙ some_left fields _ (sym tested ∙ e))

    pub inst_rule : {code : ℕ} (rule : Rule) {r : Verdict} → v ≡ true → code ≡ opcode (inst i) → rule_of rule ≡ (row code).rule → r ≡ verdict_of (rule_in ws c covered i rule) → Whole-verdict r I
    unfolding rule_in
    inst_rule {code} rule {r} e k u q =
        let R = rule_faults (module_in ws) (func_of ws c) covered (inst i) in
        subst (Whole-verdict r) z
        (q ∙ ap (λ t. verdict_of (R t)) (u ∙ ap (λ n. (row n).rule) k) ∙ ap (λ l. verdict_of (l ++ R (row (opcode (inst i))).rule)) (sym (none_left fields (sym tested ∙ e))))
