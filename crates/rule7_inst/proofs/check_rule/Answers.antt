use native.Mathlib.Omega.{arith}
use mathlib.Core.Bool.{true}
use Rattle.error.specs.declared.TypeKind.TheVariants.{Struct, Array, Map, Cell}
use Rattle.rule7_inst.proofs.RuleSteps.{rule_free, rule_no_promote, rule_ref, rule_raise, rule_wide, dyn_within, rule_dyn, rule_indirect, rule_tail_indirect, rule_concatenate, rule_slice, shape_room, shape_few, rule_shape, closure_room, closure_few, rule_closure, reach_tail, reach_call, reach_import, rule_tail, rule_call, rule_import, reach_kind, rule_kind}
use Rattle.rule7_inst.proofs.check_rule.Goals as goal

pub overflow_add-c : goal.overflow_add-c
overflow_add-c c = omega (arith, dyn_within _ _ _ _ c.requires.checkable true _ c.in-PromoteToDyn.is c.requires.reached c.slot_a-a.ensures.value)

pub overflow_add-c-in-PromoteToDyn : goal.overflow_add-c-in-PromoteToDyn
overflow_add-c-in-PromoteToDyn c = omega (arith, dyn_within _ _ _ _ c.requires.checkable true _ c.in-PromoteToDyn.is c.requires.reached c.slot_a-a.ensures.value)

pub check_direct-requires : goal.check_direct-requires
check_direct-requires c = record { checkable = c.requires.checkable; g_lt_funcs = reach_tail _ _ _ _ c.requires.checkable true _ c.in-TailCall.is c.requires.reached c.slot_w-w.ensures; first_bound = omega (arith, c.slot_a-a.ensures.upper_bound); n_bound = omega (arith, c.slot_d-d.ensures.upper_bound) }

pub check_window-requires : goal.check_window-requires
check_window-requires c = record { first_bound = omega (arith, c.slot_a-a.ensures.upper_bound); n_bound = omega (arith, c.slot_d-d.ensures.upper_bound) }

pub overflow_add-a : goal.overflow_add-a
overflow_add-a c = omega (arith, c.slot_a-a.ensures.upper_bound)

pub check_direct-requires-in-Call : goal.check_direct-requires-in-Call
check_direct-requires-in-Call c = record { checkable = c.requires.checkable; g_lt_funcs = reach_call _ _ _ _ c.requires.checkable true _ c.in-Call.is c.requires.reached c.slot_w-w.ensures; first_bound = omega (arith, c.slot_a-a.ensures.upper_bound); n_bound = omega (arith, c.slot_d-d.ensures.upper_bound) }

pub overflow_add-a-in-CallIndirect : goal.overflow_add-a-in-CallIndirect
overflow_add-a-in-CallIndirect c = omega (arith, c.slot_a-a.ensures.upper_bound)

pub check_window-requires-in-CallIndirect : goal.check_window-requires-in-CallIndirect
check_window-requires-in-CallIndirect c = record { first_bound = omega (arith, c.slot_a-a.ensures.upper_bound); n_bound = omega (arith, c.slot_d-d.ensures.upper_bound) }

pub overflow_add-a-in-CallImport : goal.overflow_add-a-in-CallImport
overflow_add-a-in-CallImport c = omega (arith, c.slot_a-a.ensures.upper_bound)

pub check_import-requires : goal.check_import-requires
check_import-requires c = record { checkable = c.requires.checkable; j_lt_imports = reach_import _ _ _ _ c.requires.checkable true _ c.in-CallImport.is c.requires.reached c.slot_w-w.ensures; first_bound = omega (arith, c.slot_a-a.ensures.upper_bound); n_bound = omega (arith, c.slot_d-d.ensures.upper_bound) }

pub overflow_add-a-in-CallShape : goal.overflow_add-a-in-CallShape
overflow_add-a-in-CallShape c = omega (arith, c.slot_a-a.ensures.upper_bound)

pub shape_length-requires : goal.shape_length-requires
shape_length-requires c = shape_room _ _ _ _ c.requires.checkable true _ c.in-CallShape.is c.requires.reached c.slot_b-b.ensures.value

pub check_window-requires-in-CallShape : goal.check_window-requires-in-CallShape
check_window-requires-in-CallShape c = record { first_bound = omega (arith, c.slot_a-a.ensures.upper_bound); n_bound = shape_few _ _ _ _ c.requires.checkable true _ c.in-CallShape.is c.requires.reached c.slot_b-b.ensures.value c.shape_length.ensures }

pub overflow_add-a-in-MakeClosure : goal.overflow_add-a-in-MakeClosure
overflow_add-a-in-MakeClosure c = omega (arith, c.slot_a-a.ensures.upper_bound)

pub capture_count-requires : goal.capture_count-requires
capture_count-requires c = closure_room _ _ _ _ c.requires.checkable true _ c.in-MakeClosure.is c.requires.reached c.slot_w-w.ensures

pub check_window-requires-in-MakeClosure : goal.check_window-requires-in-MakeClosure
check_window-requires-in-MakeClosure c = record { first_bound = omega (arith, c.slot_a-a.ensures.upper_bound); n_bound = closure_few _ _ _ _ c.requires.checkable true _ c.in-MakeClosure.is c.requires.reached c.slot_w-w.ensures c.capture_count.ensures }

pub check_window-requires-in-Concatenate : goal.check_window-requires-in-Concatenate
check_window-requires-in-Concatenate c = record { first_bound = omega (arith, c.slot_b-b.ensures.upper_bound); n_bound = omega (arith, c.slot_d-d.ensures.upper_bound) }

pub check_window-requires-in-Slice : goal.check_window-requires-in-Slice
check_window-requires-in-Slice c = record { first_bound = omega (arith, c.slot_c.ensures.upper_bound); n_bound = omega arith }

pub check_kind-requires : goal.check_kind-requires
check_kind-requires c = record { ready = c.requires.checkable.ready; framed = c.requires.checkable.framed; b_bound = reach_kind _ _ _ _ c.requires.checkable true _ Struct c.in-NewStruct.is c.requires.reached c.slot_b-b.ensures.value }

pub check_kind-requires-in-NewArray : goal.check_kind-requires-in-NewArray
check_kind-requires-in-NewArray c = record { ready = c.requires.checkable.ready; framed = c.requires.checkable.framed; b_bound = reach_kind _ _ _ _ c.requires.checkable true _ Array c.in-NewArray.is c.requires.reached c.slot_b-b.ensures.value }

pub check_kind-requires-in-NewMap : goal.check_kind-requires-in-NewMap
check_kind-requires-in-NewMap c = record { ready = c.requires.checkable.ready; framed = c.requires.checkable.framed; b_bound = reach_kind _ _ _ _ c.requires.checkable true _ Map c.in-NewMap.is c.requires.reached c.slot_b-b.ensures.value }

pub check_kind-requires-in-NewCell : goal.check_kind-requires-in-NewCell
check_kind-requires-in-NewCell c = record { ready = c.requires.checkable.ready; framed = c.requires.checkable.framed; b_bound = reach_kind _ _ _ _ c.requires.checkable true _ Cell c.in-NewCell.is c.requires.reached c.slot_b-b.ensures.value }

pub returns-in-Free : goal.returns-in-Free
returns-in-Free c = rule_free _ _ _ _ c.requires.checkable _ _ c.in-Free.is

pub returns-in-NoPromote : goal.returns-in-NoPromote
returns-in-NoPromote c = rule_no_promote _ _ _ _ c.requires.checkable _ _ c.in-NoPromote.is c.slot_d-d.ensures.value c.check_promote.ensures

pub returns-in-PromoteToDyn : goal.returns-in-PromoteToDyn
returns-in-PromoteToDyn c = rule_dyn _ _ _ _ c.requires.checkable _ _ c.in-PromoteToDyn.is c.requires.reached c.slot_a-a.ensures.value c.slot_d-d.ensures.value c.word.ensures c.check_dyn.ensures

pub returns-in-TailCall : goal.returns-in-TailCall
returns-in-TailCall c = rule_tail _ _ _ _ c.requires.checkable _ _ c.in-TailCall.is c.slot_a-a.ensures.value c.slot_d-d.ensures.value c.slot_w-w.ensures c.check_direct.ensures c.outside_try.ensures

pub returns-in-TailCallIndirect : goal.returns-in-TailCallIndirect
returns-in-TailCallIndirect c = rule_tail_indirect _ _ _ _ c.requires.checkable _ _ c.in-TailCallIndirect.is c.slot_a-a.ensures.value c.slot_d-d.ensures.value c.check_window.ensures c.outside_try-in-TailCallIndirect.ensures

pub returns-in-Call : goal.returns-in-Call
returns-in-Call c = rule_call _ _ _ _ c.requires.checkable _ _ c.in-Call.is c.slot_a-a.ensures.value c.slot_d-d.ensures.value c.slot_w-w.ensures c.check_direct-in-Call.ensures

pub returns-in-CallIndirect : goal.returns-in-CallIndirect
returns-in-CallIndirect c = rule_indirect _ _ _ _ c.requires.checkable _ _ c.in-CallIndirect.is c.slot_a-a.ensures.value c.slot_d-d.ensures.value c.check_window-in-CallIndirect.ensures

pub returns-in-CallImport : goal.returns-in-CallImport
returns-in-CallImport c = rule_import _ _ _ _ c.requires.checkable _ _ c.in-CallImport.is c.slot_a-a.ensures.value c.slot_d-d.ensures.value c.slot_w-w.ensures c.check_import.ensures

pub returns-in-CallShape : goal.returns-in-CallShape
returns-in-CallShape c = rule_shape _ _ _ _ c.requires.checkable _ _ c.in-CallShape.is c.requires.reached c.slot_b-b.ensures.value c.shape_length.ensures c.slot_a-a.ensures.value c.check_window-in-CallShape.ensures

pub returns-in-MakeClosure : goal.returns-in-MakeClosure
returns-in-MakeClosure c = rule_closure _ _ _ _ c.requires.checkable _ _ c.in-MakeClosure.is c.requires.reached c.slot_w-w.ensures c.capture_count.ensures c.slot_a-a.ensures.value c.check_window-in-MakeClosure.ensures

pub returns-in-Concatenate : goal.returns-in-Concatenate
returns-in-Concatenate c = rule_concatenate _ _ _ _ c.requires.checkable _ _ c.in-Concatenate.is c.slot_b-b.ensures.value c.slot_d-d.ensures.value c.check_window-in-Concatenate.ensures

pub returns-in-Slice : goal.returns-in-Slice
returns-in-Slice c = rule_slice _ _ _ _ c.requires.checkable _ _ c.in-Slice.is c.slot_c.ensures.value c.check_window-in-Slice.ensures

pub returns-in-NotToRef : goal.returns-in-NotToRef
returns-in-NotToRef c = rule_ref _ _ _ _ c.requires.checkable _ _ c.in-NotToRef.is c.slot_d-d.ensures.value c.check_ref.ensures

pub returns-in-Catchable : goal.returns-in-Catchable
returns-in-Catchable c = rule_raise _ _ _ _ c.requires.checkable _ _ c.in-Catchable.is c.slot_d-d.ensures.value c.check_raise.ensures

pub returns-in-WideBits : goal.returns-in-WideBits
returns-in-WideBits c = rule_wide _ _ _ _ c.requires.checkable _ _ c.in-WideBits.is c.slot_d-d.ensures.value c.check_wide.ensures

pub returns-in-NewStruct : goal.returns-in-NewStruct
returns-in-NewStruct c = rule_kind _ _ _ _ c.requires.checkable _ _ Struct c.in-NewStruct.is c.slot_b-b.ensures.value c.check_kind.ensures

pub returns-in-NewArray : goal.returns-in-NewArray
returns-in-NewArray c = rule_kind _ _ _ _ c.requires.checkable _ _ Array c.in-NewArray.is c.slot_b-b.ensures.value c.check_kind-in-NewArray.ensures

pub returns-in-NewMap : goal.returns-in-NewMap
returns-in-NewMap c = rule_kind _ _ _ _ c.requires.checkable _ _ Map c.in-NewMap.is c.slot_b-b.ensures.value c.check_kind-in-NewMap.ensures

pub returns-in-NewCell : goal.returns-in-NewCell
returns-in-NewCell c = rule_kind _ _ _ _ c.requires.checkable _ _ Cell c.in-NewCell.is c.slot_b-b.ensures.value c.check_kind-in-NewCell.ensures
