use borrow.Author.Rules.{rules}
use Rattle.writing.specs.WritingLaws.{written_one}
use Rattle.writing.proofs.push.Goals as goal

pub returns : goal.returns
returns c = search (rules, written_one)
