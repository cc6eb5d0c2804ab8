-- Imports, hooks and canonical numbers of the linked table, as code writes them.
use Rattle.std.specs.Prelude.{ℕ, ◌+◌, ◌*◌, ◌<◌, ◌≡◌, List, [], ◌∷◌, Bool, true, ltb, length, get_or}
use Rattle.lists.specs.Lists.{all_of, concat_map, from}
use Rattle.sheet.specs.Module.{TypeDef, Hook, Module}
use Rattle.canon.specs.Canon.{canon_type}
use Rattle.code.specs.Callee.{import_at}
use Rattle.open_layout.specs.Opened.{module_in}
use Rattle.open_sheet.specs.declared.Opened.{Opened}
use Rattle.table.specs.Records.{binding_word}

-- the words of members 0, 1, .. n - 1
unfoldable pub each_of : (ℕ → List ℕ) → ℕ → List ℕ
each_of enc n = concat_map enc (from 0 n)

-- ── imports ──

-- canonical signature of import i, and the place that stands in work
unfoldable pub linked_import : List ℕ → List ℕ → Opened → ℕ → List ℕ
linked_import ws w o i = canon_type (module_in ws).types (import_at (module_in ws) i).sig ∷ get_or w (5 * o.layout.words + i) 0 ∷ []

unfoldable pub linked_imports : List ℕ → List ℕ → Opened → List ℕ
linked_imports ws w o = length (module_in ws).imports ∷ each_of (linked_import ws w o) (length (module_in ws).imports)

-- the signature of each import is a type
pub record SigsInside (m : Module) : Type 0 where
  pub inside : (i : ℕ) → i < length m.imports → (import_at m i).sig < length m.types

-- ── canonical numbers ──

unfoldable pub canon_of : List TypeDef → ℕ → List ℕ
canon_of ds t = canon_type ds t ∷ []

-- ── hooks ──

unfoldable pub binding_fits : Hook → Bool
binding_fits b = ltb (binding_word b) 4294967296

-- each binding's word fits 32 bits
pub record BindingsFit (m : Module) : Type 0 where
  pub fits : all_of binding_fits m.hooks ≡ true
