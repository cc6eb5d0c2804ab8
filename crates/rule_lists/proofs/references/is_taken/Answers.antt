use borrow.Author.Rules.{rules}
use native.Mathlib.Omega.{arith}
use Rattle.open_sheet.specs.ReadyLaws.{type_room}
use Rattle.rule_lists.proofs.ReferenceSteps.{taken_plain, taken_absent, type_inside, taken_other, taken_cell}
use Rattle.rule_lists.proofs.references.is_taken.Goals as goal

pub returns-then-w-lt16 : goal.returns-then-w-lt16
returns-then-w-lt16 c = search (rules, taken_plain)

pub returns-then-o-t : goal.returns-then-o-t
returns-then-o-t c = search (rules, taken_absent)

pub type_at-p-requires : goal.type_at-p-requires
type_at-p-requires c = search (rules, type_room)

pub returns-then-word-ne4 : goal.returns-then-word-ne4
returns-then-word-ne4 c = search (rules, taken_other)

pub overflow_add-p : goal.overflow_add-p
overflow_add-p c = omega (arith, type_inside _ _ _ c.requires _ c.if-o-t.false c.type_at-p.ensures, c.requires.room)

pub returns : goal.returns
returns c = search (rules, taken_cell)
