use borrow.Author.Rules.{rules}
use native.Mathlib.Omega.{arith}
use Rattle.rule2_structs.proofs.StructRules.{struct_room, struct_fields, struct_methods, struct_fields_stop, struct_methods_stop, struct_then}
use Rattle.rule2_structs.proofs.check_struct.Goals as goal

pub overflow_add-at : goal.overflow_add-at
overflow_add-at c = omega (arith, struct_room)

pub check_fields-requires-clause-whole : goal.check_fields-requires-clause-whole
check_fields-requires-clause-whole c = search (rules, struct_fields)

pub returns-in_err-check_fields : goal.returns-in_err-check_fields
returns-in_err-check_fields c =
    let s = struct_fields_stop _ _ _ c.requires.whole _ c.check_fields.ensures (c.in_err-check_fields.was {u = tt}) in
    search (rules, s)

pub overflow_add-at-2 : goal.overflow_add-at-2
overflow_add-at-2 c = omega (arith, struct_room)

pub overflow_add-at-3 : goal.overflow_add-at-3
overflow_add-at-3 c = omega (arith, struct_room)

pub overflow_add-at-4 : goal.overflow_add-at-4
overflow_add-at-4 c = omega (arith, struct_room)

pub check_methods-requires-clause-whole : goal.check_methods-requires-clause-whole
check_methods-requires-clause-whole c = search (rules, struct_methods)

pub returns-in_err-check_methods : goal.returns-in_err-check_methods
returns-in_err-check_methods c =
    let s = struct_methods_stop _ _ _ c.requires.whole _ c.check_fields.ensures
    (c.in_ok-check_fields.was {u = tt}) c.word-fields.ensures c.check_methods.ensures (c.in_err-check_methods.was {u = tt}) in
    search (rules, s)

pub returns : goal.returns
returns c = search (rules, struct_then, c.in_ok-check_fields.was, c.in_ok-check_methods.was)
