use Rattle.table_all.proofs.Sections.{front_space, back_space, header_space, still_ready, end_length, all_small, table_written}
use Rattle.table_all.proofs.write_table.Goals as goal

pub write_front-f-requires : goal.write_front-f-requires
write_front-f-requires c = record { ready = c.requires.ready; words_bound = c.requires.words_bound; clear = c.requires.clear; o_in_bounds = front_space _ _ _ c.args.table.now c.requires.o_in_bounds }

pub write_back-b-requires : goal.write_back-b-requires
write_back-b-requires c = record { ready = still_ready _ _ _ c.requires.ready c.write_front-f.ensures.frame; clear = c.requires.clear; o_in_bounds = back_space _ _ _ c.args.table.now c.requires.o_in_bounds _ c.write_front-f.ensures.front_at c.write_front-f.ensures.table_after }

pub write_header-requires : goal.write_header-requires
write_header-requires c = record { in_bounds = header_space _ _ _ c.args.table.now c.requires.o_in_bounds _ c.write_front-f.ensures.front_at c.write_front-f.ensures.table_after c.write_back-b.ensures.table_after; small = all_small _ _ _ _ c.write_front-f.ensures.front_at _ c.write_back-b.ensures.back_at c.requires.o_len_bound }

pub returns : goal.returns
returns c = record { table_after = table_written _ _ _ _ c.write_front-f.ensures.front_at _ c.write_back-b.ensures.back_at c.args.table.now c.requires.o_in_bounds c.write_front-f.ensures.table_after c.write_back-b.ensures.table_after c.write_header.ensures; value = end_length _ _ _ _ c.write_front-f.ensures.front_at _ c.write_back-b.ensures.back_at }
