-- Totals, room in them, and one report more.
use Rattle.std.specs.Prelude.{ℕ, ◌+◌}
use Rattle.exact.specs.Adding.{Spare, Added}
use Rattle.report_lines.specs.declared.SheetReport.{SheetReport}
use Rattle.report_lines.specs.declared.Totals.{Totals}

-- n reports more have room
pub record SpareBoth (t : Totals) (n : ℕ) : Type 0 where
  pub structs : Spare t.structs n
  pub sizes : Spare t.sizes n

-- u is t and the report r
pub record AddsReport (t : Totals) (r : SheetReport) (u : Totals) : Type 0 where
  pub structs : Added t.structs r.structs u.structs
  pub sizes : Added t.sizes r.sizes u.sizes

-- what has room for one more has room after it
unfoldable pub SparesOne : Totals → Totals → Type 0
SparesOne t u = (n : ℕ) → SpareBoth t (n + 1) → SpareBoth u n
