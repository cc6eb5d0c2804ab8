use Rattle.table_catches.proofs.TableSteps.{whole_in, whole_table, whole_links}
use Rattle.table_catches.proofs.write_positions.Goals as goal

pub paint_all-requires : goal.paint_all-requires
paint_all-requires c =
    record { all_in = whole_in c.args.sheet.now _ _ _ _ _ _ _ _ _ c.requires c.fill.ensures.frame c.count_up.ensures.frame; by_index = c.fill.ensures.by_index; by_index_2 = c.count_up.ensures.by_index }

pub returns : goal.returns
returns c =
    record { table_after = whole_table _ _ _ _ _ _ _ _ _ _ c.requires c.fill.ensures.frame c.count_up.ensures.frame _ _ c.paint_all.ensures; frame = whole_links _ _ _ _ _ _ _ _ _ _ c.requires c.fill.ensures.frame c.count_up.ensures.frame _ _ c.paint_all.ensures }
