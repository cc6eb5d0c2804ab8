-- What the report says, on types given by hand; a refused sheet declares nothing that counts.
use Rattle.std.specs.Prelude.{ℕ, ◌≡◌, refl, List, [], ◌∷◌, Err}
use Rattle.std.proofs.Common.{ap}
use Rattle.error.specs.declared.LoadError.{LoadError}
use Rattle.sheet.specs.Module.{TypeDef, Module, no_module}
use Rattle.sheet.specs.Editions.{most_on_chain}
use Rattle.sheet.specs.Decode.{decode}
use Rattle.families.specs.Families.{struct_count, struct_numbers}
use Rattle.families.proofs.Cases.{child, sample, computed}
use Rattle.report_lines.specs.Report.{judged, module_or, counting, counted_module}
use Rattle.report_lines.specs.Report.{family_line, family_lines, structs_total, sizes_total, totals}

pub refused_none : (hosts sheet : List ℕ) (e : LoadError) → judged hosts sheet ≡ Err e → counted_module hosts sheet ≡ no_module
unfolding counted_module counting
refused_none hosts sheet e q = ap (λ r. counting r (module_or (decode sheet))) q

-- ── the types of two sheets, by hand ──

-- struct 1 below struct 0
abbrev pair : List TypeDef
pair = child 0 ∷ child 1 ∷ []

abbrev declaring : ℕ → List TypeDef → Module
declaring e ts =
    record {
      edition = e;
      strings = [];
      types = ts;
      consts = [];
      imports = [];
      globals = [];
      funcs = [];
      hooks = [];
      start+ = 0;
      exports = [];
    }

lines : family_lines (declaring 1 sample) ≡ (0 ∷ 1 ∷ []) ∷ (1 ∷ 1 ∷ []) ∷ (2 ∷ 3 ∷ []) ∷ (4 ∷ 1 ∷ []) ∷ []
unfolding family_lines family_line struct_numbers most_on_chain computed
lines = refl

sums : totals (declaring 1 sample ∷ declaring 2 pair ∷ []) ≡ 6 ∷ 9 ∷ []
unfolding totals structs_total sizes_total struct_count struct_numbers most_on_chain computed
sums = refl
