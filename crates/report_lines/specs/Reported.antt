-- What is reported on a sheet, and totals over sheets, as calls give them.
use Rattle.std.specs.Prelude.{ℕ, ◌+◌, ◌*◌, ◌≡◌, List, [], ◌∷◌, take, drop}
use Rattle.lists.specs.Lists.{concat_map}
use Rattle.exact.specs.Exact.{value_of}
use Rattle.families.specs.Families.{struct_numbers}
use Rattle.report_lines.specs.declared.SheetReport.{SheetReport}
use Rattle.report_lines.specs.declared.Totals.{Totals}
use Rattle.report_lines.specs.Report.{judged, counted_module, family_line, structs_total, sizes_total}

-- r is answered, and the words lent for lines hold left after it: what `report_sheet` of crate sheet_report ensures
pub record Reports (hosts sheet lines : List ℕ) (r : SheetReport) (left : List ℕ) : Type 0 where
  pub answers : r.answer ≡ judged hosts sheet
  -- the lines side by side, in the first words
  pub tells : take r.words left ≡ concat_map (family_line (counted_module hosts sheet)) (struct_numbers (counted_module hosts sheet).types)
  -- and only there
  pub rest : drop r.words left ≡ drop r.words lines
  -- two for each struct type
  pub words : r.words ≡ 2 * structs_total (counted_module hosts sheet)
  pub structs : r.structs ≡ structs_total (counted_module hosts sheet)
  pub sizes : r.sizes ≡ sizes_total (counted_module hosts sheet)

-- both sums as numbers
unfoldable pub total_numbers : Totals → List ℕ
total_numbers t = value_of t.structs ∷ value_of t.sizes ∷ []

-- u is t and one sheet more: what `report_bytes` of crate report ensures where printing succeeds
pub record AddsSheet (hosts sheet : List ℕ) (t u : Totals) : Type 0 where
  pub structs : value_of u.structs ≡ value_of t.structs + structs_total (counted_module hosts sheet)
  pub sizes : value_of u.sizes ≡ value_of t.sizes + sizes_total (counted_module hosts sheet)

-- from t to u by sheets that were added one after the other
pub data AddsSheets (hosts : List ℕ) : List (List ℕ) → Totals → Totals → Type 0 where
  none : {t : Totals} → AddsSheets hosts [] t t
  next : {sheet : List ℕ} {sheets : List (List ℕ)} {t u v : Totals} →
      AddsSheet hosts sheet t u → AddsSheets hosts sheets u v → AddsSheets hosts (sheet ∷ sheets) t v
