use borrow.Author.Rules.{rules}
use native.Mathlib.Omega.{arith}
use Rattle.table_spans.proofs.Section.{walks_all, section_size, spans_written}
use Rattle.table_spans.proofs.write_spans.Goals as goal

pub put-requires : goal.put-requires
put-requires c = omega (arith, section_size)

pub blank_spans-requires : goal.blank_spans-requires
blank_spans-requires c = omega (arith, section_size)

pub visit-requires : goal.visit-requires
visit-requires c = record { linked = search rules; walks = search (rules, walks_all); list_le_types = search rules; types_in_bounds = omega (arith, section_size) }

pub overflow_add-result : goal.overflow_add-result
overflow_add-result c =
    omega (arith, section_size c.requires.ready, c.requires.o_in_bounds, c.well_formed.1.1.1.0)

pub overflow_mul-result : goal.overflow_mul-result
overflow_mul-result c =
    omega (arith, section_size c.requires.ready, c.requires.o_in_bounds, c.well_formed.1.1.1.0)

pub overflow_add-result-2 : goal.overflow_add-result-2
overflow_add-result-2 c =
    omega (arith, section_size c.requires.ready, c.requires.o_in_bounds, c.well_formed.1.1.1.0)

pub returns : goal.returns
returns c = record { table_after = search (rules, spans_written); value = omega (arith, section_size); frame = search rules }
