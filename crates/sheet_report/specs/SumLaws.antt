-- Totals over reports are totals over sheets.
use Rattle.std.specs.Prelude.{ℕ, ◌+◌, ◌≤◌, List}
use Rattle.std.proofs.Common.{ap, ◌∙◌, arith}
use Rattle.exact.specs.Adding.{Spare}
use Rattle.exact.specs.declared.Total.{Total}
use Rattle.exact.specs.Exact.{value_of}
use Rattle.report_lines.specs.declared.SheetReport.{SheetReport}
use Rattle.report_lines.specs.declared.Totals.{Totals}
use Rattle.report_lines.specs.Reported.{Reports, AddsSheet}
use Rattle.sheet_report.specs.Sums.{SpareBoth, AddsReport, SparesOne}

module _ (hosts sheet lines : List ℕ) {t u : Totals} {r : SheetReport} {left : List ℕ} (a : AddsReport t r u) where
  pub adds_sheet : Reports hosts sheet lines r left → AddsSheet hosts sheet t u
  adds_sheet k = record {
    structs = a.structs.sum ∙ ap (λ n. value_of t.structs + n) k.structs;
    sizes = a.sizes.sum ∙ ap (λ n. value_of t.sizes + n) k.sizes;
  }

pub spares : {t u : Totals} {r : SheetReport} → AddsReport t r u → SparesOne t u
unfolding SparesOne
spares a = λ n s. record { structs = a.structs.spare n s.structs; sizes = a.sizes.spare n s.sizes }

fewer : (t : Total) (n k : ℕ) → k ≤ n → Spare t n → Spare t k
fewer t n k h s = record { low = s.low; high = omega (arith, s.high) }

pub spare_fewer : (t : Totals) (n k : ℕ) → k ≤ n → SpareBoth t n → SpareBoth t k
spare_fewer t n k h s = record { structs = fewer t.structs n k h s.structs; sizes = fewer t.sizes n k h s.sizes }

pub spare_next : (t u : Totals) (n : ℕ) → SparesOne t u → SpareBoth t (n + 1) → SpareBoth u n
unfolding SparesOne
spare_next t u n a s = a n s
