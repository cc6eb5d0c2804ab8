use borrow.Author.Rules.{rules}
use Rattle.rule7_kinds.specs.Slots.{slots_of}
use Rattle.rule7_kinds.proofs.Fields.{row_at}
use Rattle.rule7_kinds.proofs.row_kinds.Goals as goal

pub returns : goal.returns
unfolding slots_of
returns c = row_at c.args.code _ (search rules)
