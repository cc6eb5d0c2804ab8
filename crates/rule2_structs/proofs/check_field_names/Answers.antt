use borrow.Author.Rules.{rules}
use native.Mathlib.Omega.{arith}
use Rattle.reader.specs.ValueLaws.{list_within}
use Rattle.rule2_structs.proofs.StructRules.{front_whole, names_told}
use Rattle.rule2_structs.proofs.check_field_names.Goals as goal

pub overflow_add-at : goal.overflow_add-at
overflow_add-at c = omega (arith, list_within)

pub check_names-requires-clause-whole : goal.check_names-requires-clause-whole
check_names-requires-clause-whole c = search (rules, front_whole, names_told)

pub returns : goal.returns
returns c = search (rules, front_whole, names_told)
