use Rattle.sheet_report.proofs.LineSteps.{none_written, none_place, none_size, one_written, one_place, one_size}
use native.Mathlib.Omega.{arith}
use Rattle.sheet_report.proofs.write_family.Goals as goal

pub returns-then-n-eq0 : goal.returns-then-n-eq0
returns-then-n-eq0 c =
    record {
      lines_after = none_written _ _ c.size_of-n.ensures.value c.if-n-eq0.true _ _;
      words_value = none_place _ _ c.size_of-n.ensures.value c.if-n-eq0.true _;
      sizes_value = none_size _ _ c.size_of-n.ensures.value c.if-n-eq0.true _;
      sizes_bound_2 = omega arith;
    }

pub returns : goal.returns
returns c =
    record {
      lines_after = one_written _ _ c.size_of-n.ensures.value c.if-n-eq0.false _ _ c.write_line.ensures.lines_after;
      words_value = one_place _ _ c.size_of-n.ensures.value c.if-n-eq0.false _ c.write_line.ensures.value;
      sizes_value = one_size _ _ c.size_of-n.ensures.value _;
      sizes_bound_2 = omega (arith, c.size_of-n.ensures.upper_bound);
    }
