use borrow.Author.Rules.{rules}
use Rattle.rule7_words.proofs.InstSteps.{opcode_of}
use Rattle.rule7_words.proofs.opcode.Goals as goal

-- src/lib.rt:212:1
pub returns : goal.returns
returns c = search (rules, opcode_of)
