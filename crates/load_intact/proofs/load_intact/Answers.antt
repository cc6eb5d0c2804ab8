use borrow.Author.Rules.{rules}
use Rattle.rules.specs.OpenedLaws.{opened_ready, opened_few, filled_zero}
use Rattle.load_intact.proofs.OpenedSteps.{opened_fits, opened_answer, opened_table}
use Rattle.load_intact.proofs.load_intact.Goals as goal

pub link_module-a-requires : goal.link_module-a-requires
link_module-a-requires c = record { ready = opened_ready _ _ _ _ c.open_sheet-o.ensures; words_bound = opened_few _ _ _ _ c.open_sheet-o.ensures c.requires.words_bound; sorted_hosts = c.requires.sorted_hosts; fits = opened_fits _ _ _ _ c.open_sheet-o.ensures _ c.args.table.now c.requires.fits }

pub returns : goal.returns
returns c = record { value = opened_answer _ _ _ _ c.open_sheet-o.ensures _ c.link_module-a.ensures.value; table_after = opened_table _ _ _ _ c.open_sheet-o.ensures _ c.args.table.now c.link_module-a.ensures.table_after; zeroed = filled_zero _ _ _ _ c.fill.ensures.frame c.fill.ensures.by_index (search rules) (search rules) }
