-- Rule 7 gives the kinds 2 to 22 only.
use Rattle.std.specs.Prelude.{ℕ, ◌≡◌, refl, Bool, true}
use Rattle.lists.specs.Lists.{all_of}
use Rattle.error.specs.Answer.{kind_numbers}
use Rattle.sheet.specs.Module.{Func, Inst, Module, opcode}
use Rattle.code.specs.declared.FieldKind.{FieldKind}
use Rattle.code.specs.Opcodes.{Row, row, Rule, free, no_promote, promote_to_dyn, tail_call, tail_call_indirect, call, call_indirect, call_import}
use Rattle.code.specs.Opcodes.{call_shape, make_closure, of_kind, concatenate, not_to_ref, catchable, wide_bits}
use Rattle.code.specs.Code.{handler_faults, table_faults, field_faults, fields_faults, window_faults, arity_faults, direct_faults}
use Rattle.code.specs.Code.{import_call_faults, rule_faults, inst_faults, placed_faults, last_faults, code_faults, codes_faults}
use Rattle.load.specs.Kinds.{kind_number, judged, of_range, ranges_judged, parts}

-- ── fields and windows break ranges only ──

field_ranges : (m : Module) (f : Func) (k : FieldKind) (i : ℕ) → all_of of_range (field_faults m f k i) ≡ true
unfolding field_faults of_range kind_number kind_numbers
field_ranges m f FieldKind.Unused i = refl
field_ranges m f FieldKind.Reg i = simp parts
field_ranges m f FieldKind.Target i = simp parts
field_ranges m f FieldKind.Const i = simp parts
field_ranges m f FieldKind.Func i = simp parts
field_ranges m f FieldKind.Import i = simp parts
field_ranges m f FieldKind.Global i = simp parts
field_ranges m f FieldKind.Table i = simp parts
field_ranges m f FieldKind.Name i = simp parts
field_ranges m f FieldKind.TypeRef i = simp parts
field_ranges m f FieldKind.Upval i = simp parts
field_ranges m f FieldKind.Shape i = simp parts

pub fields_ranges : (m : Module) (f : Func) (r : Row) (i : Inst) → all_of of_range (fields_faults m f r i) ≡ true
unfolding fields_faults
fields_ranges m f r i = simp (parts, field_ranges)

pub window_ranges : (f : Func) (first n : ℕ) → all_of of_range (window_faults f first n) ≡ true
unfolding window_faults of_range kind_number kind_numbers
window_ranges f first n = simp parts

-- ── each law: the faults of one part of the rule are of these kinds ──

window_kinds : (f : Func) (first n : ℕ) → all_of judged (window_faults f first n) ≡ true
window_kinds f first n = ranges_judged (window_faults f first n) (window_ranges f first n)

direct_kinds : (m : Module) (f : Func) (g first n : ℕ) → all_of judged (direct_faults m f g first n) ≡ true
unfolding direct_faults arity_faults judged kind_number kind_numbers
direct_kinds m f g first n = simp (parts, window_kinds)

import_call_kinds : (m : Module) (f : Func) (j first n : ℕ) → all_of judged (import_call_faults m f j first n) ≡ true
unfolding import_call_faults arity_faults judged kind_number kind_numbers
import_call_kinds m f j first n = simp (parts, window_kinds)

rule_kinds : (m : Module) (f : Func) (covered : Bool) (i : Inst) (r : Rule) → all_of judged (rule_faults m f covered i r) ≡ true
unfolding rule_faults judged kind_number kind_numbers
rule_kinds m f covered i free = refl
rule_kinds m f covered i no_promote = simp parts
rule_kinds m f covered i promote_to_dyn = simp parts
rule_kinds m f covered i tail_call = simp (parts, direct_kinds)
rule_kinds m f covered i tail_call_indirect = simp (parts, window_kinds)
rule_kinds m f covered i call = simp direct_kinds
rule_kinds m f covered i call_indirect = simp window_kinds
rule_kinds m f covered i call_import = simp import_call_kinds
rule_kinds m f covered i call_shape = simp window_kinds
rule_kinds m f covered i make_closure = simp window_kinds
rule_kinds m f covered i (of_kind k) = simp parts
rule_kinds m f covered i concatenate = simp window_kinds
rule_kinds m f covered i Rule.slice = simp window_kinds
rule_kinds m f covered i not_to_ref = simp parts
rule_kinds m f covered i catchable = simp parts
rule_kinds m f covered i wide_bits = simp parts

inst_kinds : (m : Module) (f : Func) (pc : ℕ) (i : Inst) → all_of judged (inst_faults m f pc i) ≡ true
unfolding inst_faults
inst_kinds m f pc i =
    let r = row (opcode i) in
    simp (parts, ranges_judged (fields_faults m f r i) (fields_ranges m f r i), rule_kinds)

code_kinds : (m : Module) (n : ℕ) (f : Func) → all_of (λ e. judged e.kind) (code_faults m n f) ≡ true
unfolding code_faults last_faults handler_faults table_faults placed_faults judged kind_number kind_numbers
code_kinds m n f = simp (parts, inst_kinds)

-- all of rule 7
pub codes_kinds : (m : Module) → all_of (λ e. judged e.kind) (codes_faults m) ≡ true
unfolding codes_faults
codes_kinds m = simp (parts, code_kinds)
