use borrow.Author.Rules.{rules}
use Rattle.query.proofs.QuerySteps.{linking}
use Rattle.query.proofs.is_linked.Goals as goal

pub returns-then-table-lt10 : goal.returns-then-table-lt10
returns-then-table-lt10 c = search (rules, linking)

pub at-requires : goal.at-requires
at-requires c = search (rules, linking)

pub returns-then-at-ne2 : goal.returns-then-at-ne2
returns-then-at-ne2 c = search (rules, linking)

pub at-end-requires : goal.at-end-requires
at-end-requires c = search (rules, linking)

pub at-start-requires : goal.at-start-requires
at-start-requires c = search (rules, linking)

pub returns-then-table-end : goal.returns-then-table-end
returns-then-table-end c = search (rules, linking)

pub returns-then-start-lt10 : goal.returns-then-start-lt10
returns-then-start-lt10 c = search (rules, linking)

pub returns-then-end-start : goal.returns-then-end-start
returns-then-end-start c = search (rules, linking)

pub word_at-requires : goal.word_at-requires
word_at-requires c = search (rules, linking)

pub overflow_mul-result : goal.overflow_mul-result
overflow_mul-result c = search (rules, linking)

pub overflow_sub-result : goal.overflow_sub-result
overflow_sub-result c = search (rules, linking)

pub returns : goal.returns
returns c = search (rules, linking)
