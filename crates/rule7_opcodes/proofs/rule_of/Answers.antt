use borrow.Author.Rules.{rules}
use Rattle.rule7_opcodes.proofs.Tables.{rule_at}
use Rattle.rule7_opcodes.proofs.rule_of.Goals as goal

pub returns : goal.returns
returns c = rule_at c.args.code _ (search rules)
