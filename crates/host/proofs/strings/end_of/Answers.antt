use borrow.Author.Rules.{rules}
use native.Mathlib.Omega.{arith}
use Rattle.host.proofs.TextSteps.{text_within, text_end}
use Rattle.host.proofs.strings.end_of.Goals as goal

pub overflow_add-result : goal.overflow_add-result
overflow_add-result c = omega (arith, text_within)

pub overflow_add-result-3 : goal.overflow_add-result-3
overflow_add-result-3 c = omega (arith, text_within)

pub returns : goal.returns
returns c = search (rules, text_end)
