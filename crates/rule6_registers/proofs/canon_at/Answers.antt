use borrow.Author.Rules.{rules}
use native.Mathlib.Omega.{arith}
use Rattle.rule6_registers.proofs.CanonSteps.{canon_plain, number_room, canon_fits, canon_ref}
use Rattle.rule6_registers.proofs.canon_at.Goals as goal

pub returns-then-w-lt16 : goal.returns-then-w-lt16
returns-then-w-lt16 c = search (rules, canon_plain)

pub canon_type-c-requires : goal.canon_type-c-requires
canon_type-c-requires c = search (rules, number_room)

pub overflow_add-result : goal.overflow_add-result
overflow_add-result c = omega (arith, canon_fits _ _ _ c.requires.ready _ c.requires.whole c.requires.at_value c.word-w.ensures c.if-w-lt16.false c.canon_type-c.ensures)

pub returns : goal.returns
returns c = search (rules, canon_ref)
