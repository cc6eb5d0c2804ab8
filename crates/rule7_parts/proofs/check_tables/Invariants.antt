use Rattle.std.specs.Prelude.{◌-◌}
use Rattle.blocks.specs.Frame.{first_words}
use Rattle.sheet.specs.Decode.{switch_of}
use Rattle.code.specs.Code.{table_faults}
use Rattle.law_judging.specs.Judging.{Judges}
use Rattle.rule_frames.specs.Frames.{func_of}
use Rattle.rule7_parts.proofs.check_tables.Given as goal

abbrev pub invariant-loop : goal.invariant-loop
invariant-loop l =
    Judges switch_of (table_faults (func_of (first_words l.sheet l.o.layout.words) l.c)) (first_words l.sheet l.o.layout.words) l.c.body.tables (l.c.tables - l.counter) l.p
