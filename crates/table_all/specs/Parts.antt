-- The linked table in two halves and a header, as code writes it.
use Rattle.std.specs.Prelude.{ℕ, ◌+◌, ◌<◌, ◌≡◌, List, [], ◌∷◌, ◌++◌, length}
use Rattle.reader.specs.Reader.{encode_list}
use Rattle.sheet.specs.Module.{Module}
use Rattle.open_layout.specs.Opened.{module_in}
use Rattle.types.specs.Types.{types_faults}
use Rattle.sheet.specs.Editions.{most_of}
use Rattle.parents.specs.Parents.{parents_faults}
use Rattle.imports.specs.Imports.{globals_faults}
use Rattle.funcs.specs.Funcs.{funcs_faults}
use Rattle.table.specs.Records.{type_record, func_record}
use Rattle.table.specs.Table.{joined, hook_section, canon_section, global_section, reference_section, spans_of}
use Rattle.open_sheet.specs.declared.Opened.{Opened}
use Rattle.table_all.specs.declared.Front.{Front}
use Rattle.table_all.specs.declared.Back.{Back}
use Rattle.table_imports.specs.Sections.{linked_imports, SigsInside, BindingsFit}

-- what the sections ask of a module: these rules hold
pub record Clear (m : Module) : Type 0 where
  pub types : types_faults m ≡ []
  pub parents : parents_faults (most_of m) m ≡ []
  pub signed : SigsInside m
  pub globals : globals_faults m ≡ []
  pub funcs : funcs_faults m ≡ []
  pub hooks : BindingsFit m

module _ (ws : List ℕ) where
  abbrev pub func_section : List ℕ
  func_section = encode_list (func_record (module_in ws)) (module_in ws).funcs

  abbrev pub type_section : List ℕ
  type_section = encode_list (type_record (module_in ws)) (module_in ws).types

  -- functions, types, imports with their places in w, hooks
  unfoldable pub front_words : List ℕ → Opened → List ℕ
  front_words w o = func_section ++ type_section ++ linked_imports ws w o ++ hook_section (module_in ws)

  -- canonical numbers, globals, references among them, spans
  unfoldable pub back_words : List ℕ
  back_words = canon_section (module_in ws) ++ global_section (module_in ws) ++ reference_section (module_in ws) ++ spans_of (module_in ws)

  -- where each section starts, the first of them at a place, and where the last ends
  pub record FrontAt (w : List ℕ) (o : Opened) (at : ℕ) (f : Front) : Type 0 where
    pub types : f.types ≡ at + length func_section
    pub imports : f.imports ≡ f.types + length type_section
    pub hooks : f.hooks ≡ f.imports + length (linked_imports ws w o)
    pub end : f.end ≡ f.hooks + length (hook_section (module_in ws))

  pub record BackAt (at : ℕ) (b : Back) : Type 0 where
    pub globals : b.globals ≡ at + length (canon_section (module_in ws))
    pub references : b.references ≡ b.globals + length (global_section (module_in ws))
    pub spans : b.spans ≡ b.references + length (reference_section (module_in ws))
    pub end : b.end ≡ b.spans + length (spans_of (module_in ws))

-- edition, L, the starts
unfoldable pub header_of : Front → Back → List ℕ
header_of f b = 2 ∷ b.end ∷ 10 ∷ f.types ∷ f.imports ∷ f.hooks ∷ f.end ∷ b.globals ∷ b.references ∷ b.spans ∷ []

-- all of these are words
pub record Small (f : Front) (b : Back) : Type 0 where
  pub types : f.types < 4294967296
  pub imports : f.imports < 4294967296
  pub hooks : f.hooks < 4294967296
  pub middle : f.end < 4294967296
  pub globals : b.globals < 4294967296
  pub references : b.references < 4294967296
  pub spans : b.spans < 4294967296
  pub end : b.end < 4294967296

-- the whole table, with the imports' places that stand in w
unfoldable pub table_by : List ℕ → List ℕ → Opened → List ℕ
table_by ws w o =
    joined
    (func_section ws
    ∷ type_section ws
    ∷ linked_imports ws w o
    ∷ hook_section (module_in ws)
    ∷ canon_section (module_in ws)
    ∷ global_section (module_in ws)
    ∷ reference_section (module_in ws)
    ∷ spans_of (module_in ws)
    ∷ [])
