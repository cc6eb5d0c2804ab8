use borrow.Author.Rules.{rules}
use Rattle.rule7_words.proofs.InstSteps.{w_of}
use Rattle.rule7_words.proofs.slot_w.Goals as goal

-- src/lib.rt:242:1
pub returns : goal.returns
returns c = search (rules, w_of)
