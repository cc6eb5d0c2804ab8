-- A function's record, part by part.
use Prim.Native.Nat.{ℕ, ◌≤◌, ◌<◌}
use mathlib.Core.Path.{◌≡◌, refl, sym, ap, ◌∙◌}
use mathlib.Core.List.{List, [], ◌++◌, append_assoc}
use mathlib.Core.Bool.{Bool, true, false}
use lib.Dec.{leb}
use lib.ListN.{length}
use borrow.Author.Tests.{le-leb, lt-leb}
use Rattle.lists.specs.Lists.{concat_map}
use Rattle.error.specs.declared.What.TheVariants.{Types, Registers}
use Rattle.error.specs.declared.LoadErrorKind.{LoadErrorKind}
use Rattle.error.specs.declared.LoadErrorKind.TheVariants.{OutOfRange}
use Rattle.error.specs.Verdict.{Verdict, verdict_of}
use Rattle.std.specs.Prelude.{Err, Ok}
use Rattle.error.specs.Answer.{unless, in_range}
use Rattle.error.specs.VerdictLaws.{verdict_then, verdict_stop}
use Rattle.reader.specs.Reader.{got, Reader, word, list_of}
use Rattle.reader.specs.Value.{Whole}
use Rattle.reader.specs.ValueLaws.{got_whole, value_got}
use Rattle.sheet.specs.Module.{Func, Module}
use Rattle.sheet.specs.Decode.{value_type, param_list, arg_of}
use Rattle.open_layout.specs.Opened.{module_in}
use Rattle.open_sheet.specs.declared.Opened.{Opened}
use Rattle.open_sheet.specs.Ready.{Opens, Ready}
use Rattle.types.specs.Types.{value_faults, string_faults}
use Rattle.imports.specs.Params.{signature_faults}
use Rattle.funcs.specs.Shapes.{shape_faults}
use Rattle.funcs.specs.Funcs.{most_registers, type_ref_faults, func_faults}
use Rattle.law_judging.specs.Judging.{list_faults}
use Rattle.rule_frames.specs.declared.Frame.{Frame}
use Rattle.rule_frames.specs.Frames.{func_of, Framed}
use Rattle.rule6_records.specs.Records.{registers_faults, params_faults, head_faults, tail_faults, lists_faults}

pub ready_opens : (ws w : List ℕ) (o : Opened) → Ready ws w o → Opens ws o
ready_opens ws w o x = x.opens

-- ── the rule is its parts ──

pub func_parts : (m : Module) (f : Func) → func_faults m f ≡ head_faults m f ++ lists_faults m f
unfolding func_faults head_faults lists_faults registers_faults params_faults tail_faults
func_parts m f = simp append_assoc

-- ── each part stands where the frame says ──

module _ (ws : List ℕ) (c : Frame) (x : Framed ws c) where
  pub regs_whole : Whole (list_of value_type ws c.body.regs)
  regs_whole = got_whole x.placed.regs

  pub params_whole : Whole (param_list ws c.body.params)
  params_whole = got_whole x.placed.params

  pub shapes_whole : Whole (list_of (list_of arg_of) ws c.body.shapes)
  shapes_whole = got_whole x.placed.shapes

  pub captures_whole : Whole (list_of value_type ws c.body.captures)
  captures_whole = got_whole x.placed.captures

  pub names_whole : Whole (list_of word ws c.body.names)
  names_whole = got_whole x.placed.names

  pub refs_whole : Whole (list_of word ws c.body.type_refs)
  refs_whole = got_whole x.placed.type_refs

pub ruleset standing = (regs_whole, params_whole, shapes_whole, captures_whole, names_whole, refs_whole)

-- what is broken in a list that stands there
listed : {A : Type 0} (f : Reader A) (faults : A → List LoadErrorKind) (ws : List ℕ) (at : ℕ) (xs : List A) (q : ℕ)
    → list_of f ws at ≡ got xs q →
    list_faults faults (list_of f ws at) ≡ concat_map faults xs
unfolding list_faults
listed f faults ws at xs q e = ap (concat_map faults) (value_got [] e)

-- ── register types, their number ──

module _ (ws : List ℕ) (c : Frame) (x : Framed ws c) where
  pub regs_faults : list_faults (value_faults (module_in ws)) (list_of value_type ws c.body.regs)
      ≡ concat_map (value_faults (module_in ws)) (func_of ws c).regs
  regs_faults = listed value_type (value_faults (module_in ws)) ws c.body.regs (func_of ws c).regs c.body.params x.placed.regs

  registers : verdict_of
      (list_faults (value_faults (module_in ws)) (list_of value_type ws c.body.regs)
      ++ unless (leb c.regs most_registers) (OutOfRange Registers c.regs))
      ≡ verdict_of (registers_faults (module_in ws) (func_of ws c))
  unfolding registers_faults
  registers = ap (λ l. verdict_of (l ++ unless (leb c.regs most_registers) (OutOfRange Registers c.regs))) regs_faults
      ∙ ap (λ n. verdict_of
      (concat_map (value_faults (module_in ws)) (func_of ws c).regs ++ unless (leb n most_registers) (OutOfRange Registers n))) x.regs

  module _ {r : Verdict} (k : r ≡ verdict_of (list_faults (value_faults (module_in ws)) (list_of value_type ws c.body.regs))) where
    pub registers_stop : {b : LoadErrorKind} → r ≡ Err b → Err b ≡ verdict_of (registers_faults (module_in ws) (func_of ws c))
    registers_stop {b} e = verdict_stop (list_faults (value_faults (module_in ws)) (list_of value_type ws c.body.regs)) _ b e k ∙ registers

    counted : {v : Verdict} (t : Bool) → r ≡ Ok tt → leb c.regs most_registers ≡ t
        → v ≡ verdict_of (unless t (OutOfRange Registers c.regs)) → v ≡ verdict_of (registers_faults (module_in ws) (func_of ws c))
    counted t e z h =
        verdict_then (list_faults (value_faults (module_in ws)) (list_of value_type ws c.body.regs))
        (unless (leb c.regs most_registers) (OutOfRange Registers c.regs)) e k
        (h ∙ sym (ap (λ b. verdict_of (unless b (OutOfRange Registers c.regs))) z))
        ∙ registers

    pub registers_many : r ≡ Ok tt → 65536 < c.regs
        → Err (OutOfRange Registers c.regs) ≡ verdict_of (registers_faults (module_in ws) (func_of ws c))
    unfolding verdict_of
    registers_many e h = counted false e (lt-leb c.regs 65536 h) refl

    pub registers_hold : r ≡ Ok tt → c.regs ≤ 65536 → Ok tt ≡ verdict_of (registers_faults (module_in ws) (func_of ws c))
    unfolding verdict_of
    registers_hold e h = counted true e (le-leb c.regs 65536 h) refl

pub ruleset registering = (registers_stop, registers_many, registers_hold)

-- ── captures, names, type refs ──

module _ (ws : List ℕ) (c : Frame) (x : Framed ws c) where
  captures_faults : list_faults (value_faults (module_in ws)) (list_of value_type ws c.body.captures)
      ≡ concat_map (value_faults (module_in ws)) (func_of ws c).captures
  captures_faults = listed value_type (value_faults (module_in ws)) ws c.body.captures
      (func_of ws c).captures c.body.names x.placed.captures

  names_faults_lem : list_faults (string_faults (module_in ws)) (list_of word ws c.body.names)
      ≡ concat_map (string_faults (module_in ws)) (func_of ws c).names
  names_faults_lem = listed word (string_faults (module_in ws)) ws c.body.names (func_of ws c).names c.body.type_refs x.placed.names

  refs_faults : list_faults (in_range Types (length (module_in ws).types)) (list_of word ws c.body.type_refs)
      ≡ concat_map (type_ref_faults (module_in ws)) (func_of ws c).type_refs
  unfolding type_ref_faults
  refs_faults = listed word (in_range Types (length (module_in ws).types)) ws c.body.type_refs
      (func_of ws c).type_refs c.body.handlers x.placed.type_refs

  module _ {r : Verdict} (k : r ≡ verdict_of (list_faults (value_faults (module_in ws)) (list_of value_type ws c.body.captures))) where
    first : r ≡ verdict_of (concat_map (value_faults (module_in ws)) (func_of ws c).captures)
    first = k ∙ ap verdict_of captures_faults

    pub tail_stop : {b : LoadErrorKind} → r ≡ Err b → Err b ≡ verdict_of (tail_faults (module_in ws) (func_of ws c))
    unfolding tail_faults
    tail_stop {b} e = verdict_stop (concat_map (value_faults (module_in ws)) (func_of ws c).captures) _ b e first

    module _ (e : r ≡ Ok tt) {s : Verdict}
        (l : s ≡ verdict_of (list_faults (string_faults (module_in ws)) (list_of word ws c.body.names))) where
      pub tail_second : {b : LoadErrorKind} → s ≡ Err b → Err b ≡ verdict_of (tail_faults (module_in ws) (func_of ws c))
      unfolding tail_faults
      tail_second {b} z =
          verdict_then (concat_map (value_faults (module_in ws)) (func_of ws c).captures) _ e first
          (verdict_stop (concat_map (string_faults (module_in ws)) (func_of ws c).names)
          (concat_map (type_ref_faults (module_in ws)) (func_of ws c).type_refs) b z (l ∙ ap verdict_of names_faults_lem))

      pub tail_third : {v : Verdict} → s ≡ Ok tt
          → v ≡ verdict_of (list_faults (in_range Types (length (module_in ws).types)) (list_of word ws c.body.type_refs))
          → v ≡ verdict_of (tail_faults (module_in ws) (func_of ws c))
      unfolding tail_faults
      tail_third z h =
          verdict_then (concat_map (value_faults (module_in ws)) (func_of ws c).captures) _ e first
          (verdict_then (concat_map (string_faults (module_in ws)) (func_of ws c).names)
          (concat_map (type_ref_faults (module_in ws)) (func_of ws c).type_refs) z (l ∙ ap verdict_of names_faults_lem)
          (h ∙ ap verdict_of refs_faults))

pub ruleset tailing = (tail_stop, tail_second, tail_third)

-- ── call shapes, then those ──

module _ (ws : List ℕ) (c : Frame) (x : Framed ws c) {r : Verdict}
    (k : r ≡ verdict_of (list_faults (shape_faults (module_in ws)) (list_of (list_of arg_of) ws c.body.shapes))) where
  shapes_first : r ≡ verdict_of (concat_map (shape_faults (module_in ws)) (func_of ws c).shapes)
  shapes_first = k
      ∙ ap verdict_of
      (listed (list_of arg_of) (shape_faults (module_in ws)) ws c.body.shapes (func_of ws c).shapes c.body.captures x.placed.shapes)

  pub lists_stop : {b : LoadErrorKind} → r ≡ Err b → Err b ≡ verdict_of (lists_faults (module_in ws) (func_of ws c))
  unfolding lists_faults
  lists_stop {b} e = verdict_stop (concat_map (shape_faults (module_in ws)) (func_of ws c).shapes)
      (tail_faults (module_in ws) (func_of ws c)) b e shapes_first

  pub lists_then : {v : Verdict} → r ≡ Ok tt → v ≡ verdict_of (tail_faults (module_in ws) (func_of ws c))
      → v ≡ verdict_of (lists_faults (module_in ws) (func_of ws c))
  unfolding lists_faults
  lists_then e h = verdict_then (concat_map (shape_faults (module_in ws)) (func_of ws c).shapes)
      (tail_faults (module_in ws) (func_of ws c)) e shapes_first h

-- ── signature, registers, parameters ──

module _ (ws : List ℕ) (c : Frame) (x : Framed ws c) {r : Verdict} (k : r ≡ verdict_of (signature_faults (module_in ws) c.body.sig.0)) where
  sig_first : r ≡ verdict_of (signature_faults (module_in ws) (func_of ws c).sig)
  sig_first = k ∙ ap (λ t. verdict_of (signature_faults (module_in ws) t)) x.placed.sig

  pub head_stop : {b : LoadErrorKind} → r ≡ Err b → Err b ≡ verdict_of (head_faults (module_in ws) (func_of ws c))
  unfolding head_faults
  head_stop {b} e = verdict_stop (signature_faults (module_in ws) (func_of ws c).sig) _ b e sig_first

  module _ (e : r ≡ Ok tt) {s : Verdict} (l : s ≡ verdict_of (registers_faults (module_in ws) (func_of ws c))) where
    pub head_second : {b : LoadErrorKind} → s ≡ Err b → Err b ≡ verdict_of (head_faults (module_in ws) (func_of ws c))
    unfolding head_faults
    head_second {b} z =
        verdict_then (signature_faults (module_in ws) (func_of ws c).sig) _ e sig_first
        (verdict_stop (registers_faults (module_in ws) (func_of ws c)) (params_faults (module_in ws) (func_of ws c)) b z l)

    pub head_third : {v : Verdict} → s ≡ Ok tt → v ≡ verdict_of (params_faults (module_in ws) (func_of ws c))
        → v ≡ verdict_of (head_faults (module_in ws) (func_of ws c))
    unfolding head_faults
    head_third z h =
        verdict_then (signature_faults (module_in ws) (func_of ws c).sig) _ e sig_first
        (verdict_then (registers_faults (module_in ws) (func_of ws c)) (params_faults (module_in ws) (func_of ws c)) z l h)

pub ruleset heading = (head_stop, head_second, head_third)
