use borrow.Author.Rules.{rules}
use native.Mathlib.Omega.{arith}
use Rattle.rule7_words.proofs.InstSteps.{inst_within, inst_read, inst_listed}
use Rattle.rule7_words.proofs.read_inst.Goals as goal

-- src/lib.rt:207:27
pub overflow_add-at : goal.overflow_add-at
overflow_add-at c = omega (arith, inst_within)

-- src/lib.rt:200:1
pub returns : goal.returns
returns c = search (rules, inst_read, inst_listed)
