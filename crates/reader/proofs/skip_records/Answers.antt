use borrow.Author.Rules.{rules}
use Rattle.reader.proofs.LoopLaws.{list_of_end}
use Rattle.reader.proofs.RecordSteps.{records_next, records_short}
use Rattle.reader.proofs.Records.{product_fits}
use Rattle.reader.proofs.skip_records.Goals as goal

pub returns-then-n-at : goal.returns-then-n-at
returns-then-n-at c = search (rules, records_next, records_short, list_of_end, product_fits)

pub returns-then-n-from : goal.returns-then-n-from
returns-then-n-from c = search (rules, records_next, records_short, list_of_end, product_fits)

pub returns : goal.returns
returns c = search (rules, records_next, records_short, list_of_end, product_fits)
