use borrow.Author.Rules.{rules}
use Rattle.rule2_structs.proofs.StructRules.{fields_stop, fields_then}
use Rattle.rule2_structs.proofs.check_fields.Goals as goal

pub returns-in_err-check_field_types : goal.returns-in_err-check_field_types
returns-in_err-check_field_types c =
    let s = fields_stop _ _ _ (c.in_err-check_field_types.was {u = tt}) c.check_field_types.ensures in
    search (rules, s)

pub returns : goal.returns
returns c = search (rules, fields_stop, fields_then, c.in_ok-check_field_types.was)
