use borrow.Author.Rules.{rules}
use Rattle.rule7_opcodes.proofs.Tables.{ending_at}
use Rattle.rule7_opcodes.proofs.terminates.Goals as goal

pub returns : goal.returns
returns c = ending_at c.args.code _ (search rules)
