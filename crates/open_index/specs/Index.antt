-- Where the members of a sheet's parts stand and end.
use Rattle.std.specs.Prelude.{ℕ, ◌+◌, List, [], ◌∷◌, ◌++◌, length}
use Rattle.reader.specs.Reader.{Got, broken, got, Reader, list_of}
use Rattle.reader.specs.Value.{Whole}
use Rattle.reader.specs.Text.{string}
use Rattle.sheet.specs.Decode.{type_def, const_of, import_of, function_of}
use Rattle.open_layout.specs.Layout.{pos_of}
use Rattle.open_layout.specs.declared.Layout.{Layout}
use Rattle.open_index.specs.declared.Index.{Index}
use Rattle.open_index.specs.declared.Part.{Part}
use Rattle.open_index.specs.declared.Part.TheVariants.{Strings, Types, Consts, Imports, Funcs}

-- where a member of the part stands
unfoldable pub member_of : Part → Reader ℕ
member_of Strings = pos_of string
member_of Types = pos_of type_def
member_of Consts = pos_of const_of
member_of Imports = pos_of import_of
member_of Funcs = pos_of function_of

-- where the members of a list stand, and after them where it ends: member i is from edge i to edge i + 1
unfoldable pub edges : Got (List ℕ) → List ℕ
edges broken = []
edges (got ps q) = ps ++ (q ∷ [])

-- of the part's list at a position
unfoldable pub edges_of : Part → List ℕ → ℕ → List ℕ
edges_of part ws at = edges (list_of (member_of part) ws at)

-- ── the whole index: the five parts side by side ──

-- each part's list is whole where the layout says
pub record Indexable (ws : List ℕ) (l : Layout) : Type 0 where
  pub strings : Whole (list_of (member_of Strings) ws l.strings)
  pub types : Whole (list_of (member_of Types) ws l.types)
  pub consts : Whole (list_of (member_of Consts) ws l.consts)
  pub imports : Whole (list_of (member_of Imports) ws l.imports)
  pub funcs : Whole (list_of (member_of Funcs) ws l.funcs)

unfoldable pub index : List ℕ → Layout → List ℕ
index ws l =
    edges_of Strings ws l.strings
    ++ edges_of Types ws l.types
    ++ edges_of Consts ws l.consts
    ++ edges_of Imports ws l.imports
    ++ edges_of Funcs ws l.funcs

-- where each part's edges begin among them: the strings' at 0
unfoldable pub index_of : List ℕ → Layout → Index
index_of ws l =
    let types = 0 + length (edges_of Strings ws l.strings) in
    let consts = types + length (edges_of Types ws l.types) in
    let imports = consts + length (edges_of Consts ws l.consts) in
    let funcs = imports + length (edges_of Imports ws l.imports) in
    record { strings = 0; types = types; consts = consts; imports = imports; funcs = funcs; end = funcs + length (edges_of Funcs ws l.funcs) }
