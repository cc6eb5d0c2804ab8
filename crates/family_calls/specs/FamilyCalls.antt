-- Sizes of families, counts of struct types and reports, said of what calls answer and write.
use Rattle.std.specs.Prelude.{◌≡◌, false, List, [], ◌∷◌, ℕ, ◌-◌, ◌≤◌, T, eqb, length, Some, Err, Ok, Option}
use Rattle.lists.specs.Lists.{keep, from, sum}
use Rattle.error.specs.declared.LoadError.{LoadError}
use Rattle.sheet.specs.Module.{Module, type_at, is_struct}
use Rattle.sheet.specs.Decode.{decode}
use Rattle.sheet.specs.Editions.{most_of}
use Rattle.spans.specs.Spans.{roots}
use Rattle.descends.specs.Descends.{pre_in, post_in}
use Rattle.descends.specs.Sizes.{FamilySize, size_in, size_numbers}
use Rattle.families.specs.Families.{family_size}
use Rattle.families.specs.Counted.{structs_in, count_numbers}
use Rattle.report_lines.specs.declared.SheetReport.{SheetReport}
use Rattle.report_lines.specs.declared.Totals.{Totals}
use Rattle.report_lines.specs.Report.{counted_module, total_line}
use Rattle.report_lines.specs.Reported.{Reports, total_numbers, AddsSheets}
use Rattle.calls.specs.Calls.{Loads, Asks, Begins}

-- ── calls ──

-- x is answered: what `family_size` of crate query ensures, so each call of it gives one
pub record AsksSize (table : List ℕ) (a : ℕ) (x : FamilySize) : Type 0 where
  pub answers : x ≡ size_in table a

-- the same call for C and Rust, which gives two numbers: what `paqlluri_family_size` ensures
pub record AsksSizeNumbers (table : List ℕ) (a : ℕ) (two : List ℕ) : Type 0 where
  pub answered : FamilySize
  pub asks : AsksSize table a answered
  pub numbered : two ≡ size_numbers answered

-- r is answered: what `count_structs` of crate family_sheets ensures
pub record CountsStructs (sheet : List ℕ) (r : Option ℕ) : Type 0 where
  pub answers : r ≡ structs_in sheet

-- the same call for C and Rust: what `paqlluri_count_structs` ensures
pub record CountsNumbers (sheet two : List ℕ) : Type 0 where
  pub answered : Option ℕ
  pub counts : CountsStructs sheet answered
  pub numbered : two ≡ count_numbers answered

-- ── sizes ──

-- what the size query answers on a table of the sheet's types
pub record SizesAsked (sheet : List ℕ) (m : Module) (table : List ℕ) : Type 0 where
  -- how many types descend from a by declared parents, itself included
  pub declared : (a : ℕ) (x : FamilySize) → AsksSize table a x → x ≡ Ok (family_size (most_of m) m.types a)
  -- how many numbers descend from it by the family query, asked for each number below n, all types among them
  pub queried : (a : ℕ) (x : FamilySize) → AsksSize table a x → (answer : ℕ → ℕ) → ((t : ℕ) → Asks table t a (answer t)) →
      (n : ℕ) → length m.types ≤ n → x ≡ Ok (length (keep (λ t. eqb (answer t) 1) (from 0 n)))
  -- post minus pre of a struct type
  pub spans : (a : ℕ) (x : FamilySize) → AsksSize table a x → T (is_struct (type_at m.types a)) → x ≡ Ok (post_in table a - pre_in table a)
  -- 0 for any other number
  pub others : (a : ℕ) (x : FamilySize) → AsksSize table a x → is_struct (type_at m.types a) ≡ false → x ≡ Ok 0
  -- the root families' sizes add up to the number of struct types, which `count_structs` counts from the declarations
  pub roots_add_up : (size : ℕ → ℕ) → ((a : ℕ) → AsksSize table a (Ok (size a))) →
      (n : ℕ) → CountsStructs sheet (Some n) → sum size (roots m.types) ≡ n

-- of every call that accepts an intact sheet with l words, on what it left and on any words that begin so
unfoldable pub SizesRight : Type 0
SizesRight =
    (sheet hosts table work : List ℕ) (l : ℕ) (left work_left : List ℕ) (m : Module) → decode sheet ≡ Some m →
    Loads sheet hosts table work (Ok l) left work_left → (words : List ℕ) → Begins l left words → SizesAsked sheet m words

-- ── reports ──

-- the sizes of all root families of a module
abbrev pub root_sizes : Module → ℕ
root_sizes m = sum (family_size (most_of m) m.types) (roots m.types)

-- of every report on a sheet
pub record ReportRight (hosts sheet : List ℕ) (r : SheetReport) : Type 0 where
  -- a refused sheet has no line and adds to no total
  pub refused : (e : LoadError) → r.answer ≡ Err e → (r.words ≡ 0) × (r.structs ≡ 0) × (r.sizes ≡ 0)
  -- the sizes of the root families add up to the struct types that were counted
  pub roots_add_up : root_sizes (counted_module hosts sheet) ≡ r.structs

unfoldable pub ReportsRight : Type 0
ReportsRight = (hosts sheet lines : List ℕ) (r : SheetReport) (left : List ℕ) → Reports hosts sheet lines r left → ReportRight hosts sheet r

-- totals that begin with nothing are the report's last line, over any number of sheets
unfoldable pub TotalsExact : Type 0
TotalsExact =
    (hosts : List ℕ) (sheets : List (List ℕ)) (t u : Totals) → total_numbers t ≡ 0 ∷ 0 ∷ [] → AddsSheets hosts sheets t u →
    total_numbers u ≡ total_line hosts sheets
