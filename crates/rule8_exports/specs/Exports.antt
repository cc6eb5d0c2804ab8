-- What code for exports relies on: a mark for each name that was met.
use Rattle.std.specs.Prelude.{ℕ, ◌+◌, ◌*◌, ◌≤◌, ◌<◌, ◌≡◌, List, Bool, true, cond, eqb, ltb, length, get_or, take}
use Rattle.lists.specs.Lists.{all_of, any_of, concat_map_from}
use Rattle.error.specs.declared.LoadErrorKind.{LoadErrorKind}
use Rattle.error.specs.Verdict.{Verdict}
use Rattle.std.specs.Prelude.{Ok}
use Rattle.sheet.specs.Module.{Export, Module}
use Rattle.sheet.specs.Editions.{reads_export_names}
use Rattle.canon.specs.Canon.{canon_string}
use Rattle.hooks.specs.Hooks.{export_at, export_faults}
use Rattle.open_layout.specs.Opened.{module_in}
use Rattle.open_sheet.specs.declared.Opened.{Opened}
use Rattle.open_sheet.specs.Ready.{Ready}

-- what is broken in the exports, in order
unfoldable pub broken_exports : Module → List LoadErrorKind
broken_exports m = concat_map_from 0 (export_faults m) m.exports

-- the name is a string
unfoldable pub has_name : Module → Export → Bool
has_name m e = ltb e.name (length m.strings)

-- the canonical number of the name
unfoldable pub canon_name : Module → Export → ℕ
canon_name m e = canon_string m.strings e.name

-- one of the first i exports has the canonical name c
unfoldable pub is_met : Module → ℕ → ℕ → Bool
is_met m i c = any_of (λ e. eqb (canon_name m e) c) (take i m.exports)

-- the first i exports have names; of the words from base on, one for each string, that of a canonical name is 1 where it was met, else 0
pub record NamesMarked (m : Module) (i : ℕ) (w : List ℕ) (base : ℕ) : Type 0 where
  pub named : all_of (has_name m) (take i m.exports) ≡ true
  pub room : base + length m.strings ≤ length w
  pub mark : (c : ℕ) → c < length m.strings → get_or w (base + c) 0 ≡ cond (is_met m i c) 1 0

-- where the edition has names read
pub record MarkedIf (m : Module) (i : ℕ) (w : List ℕ) (base : ℕ) : Type 0 where
  pub read : reads_export_names m.edition ≡ true → NamesMarked m i w base

-- and after an export that holds
pub record MarkedThen (r : Verdict) (m : Module) (i : ℕ) (w : List ℕ) (base : ℕ) : Type 0 where
  pub holds : r ≡ Ok tt → MarkedIf m i w base

-- n is the name of the export at place i, a string, and the names before it are marked
pub record Naming (ws w : List ℕ) (o : Opened) (i n : ℕ) : Type 0 where
  pub ready : Ready ws w o
  pub below : i < length (module_in ws).exports
  pub name : (export_at (module_in ws) i).name ≡ n
  pub inside : n < length (module_in ws).strings
  pub marked : NamesMarked (module_in ws) i w (6 * o.layout.words)
