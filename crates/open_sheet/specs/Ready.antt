-- An intact sheet made ready for the rules: counts, members by number, canonical numbers in lent words.
use Rattle.std.specs.Prelude.{ℕ, ◌+◌, ◌*◌, ◌≤◌, ◌<◌, ◌≡◌, List, length, get_or}
use Rattle.reader.specs.Reader.{got, Reader}
use Rattle.reader.specs.Text.{string}
use Rattle.sheet.specs.Module.{Func, Module}
use Rattle.sheet.specs.Decode.{type_def, const_of, import_of, function_of}
use Rattle.open_layout.specs.LayoutLaws.{Located}
use Rattle.blocks.specs.Frame.{first_words}
use Rattle.open_layout.specs.Opened.{module_in}
use Rattle.open_index.specs.Index.{index_of}
use Rattle.canon.specs.Canon.{canon_string, canon_type}
use Rattle.region.specs.Region.{Frame}
use Rattle.open_sheet.specs.declared.Counts.{Counts}
use Rattle.open_sheet.specs.declared.Opened.{Opened}

unfoldable pub counts_of : Module → Counts
counts_of m = record {
  strings = length m.strings;
  types = length m.types;
  consts = length m.consts;
  imports = length m.imports;
  globals = length m.globals;
  funcs = length m.funcs;
}

-- the words of an opened sheet
abbrev pub sheet_words : List ℕ → Opened → List ℕ
sheet_words b o = first_words b o.layout.words

-- and the module that they hold
abbrev pub module_of : List ℕ → Opened → Module
module_of b o = module_in (first_words b o.layout.words)

-- the edition, each part where the layout says, and so many members
pub record Opens (ws : List ℕ) (o : Opened) : Type 0 where
  pub edition : o.edition ≡ (module_in ws).edition
  pub located : Located ws (module_in ws) o.layout
  pub counts : o.counts ≡ counts_of (module_in ws)

-- where member i stands, its part's edges beginning at base
unfoldable pub pos_at : List ℕ → ℕ → ℕ → ℕ
pos_at w base i = get_or w (base + i) 0

-- word base + i of w says where member i stands, and the next word where it ends
pub record Entries {A : Type 0} (f : Reader A) (ws : List ℕ) (xs : List A) (w : List ℕ) (base : ℕ) : Type 0 where
  pub room : base + length xs < length w
  pub member : (i : ℕ) (d : A) → i < length xs → f ws (pos_at w base i) ≡ got (get_or xs i d) (pos_at w base (i + 1))

-- n words for the index, n for the strings' canonical numbers, n for the types', n for marks of strings, all zero between calls;
-- n more are `Captured`'s; the rest is free
pub record Ready (ws w : List ℕ) (o : Opened) : Type 0 where
  pub opens : Opens ws o
  pub room : 64 + 8 * o.layout.words ≤ length w
  pub edges : o.index ≡ index_of ws o.layout
  pub inside : o.index.end ≤ o.layout.words
  pub strings : Entries string ws (module_in ws).strings w o.index.strings
  pub types : Entries type_def ws (module_in ws).types w o.index.types
  pub consts : Entries const_of ws (module_in ws).consts w o.index.consts
  pub imports : Entries import_of ws (module_in ws).imports w o.index.imports
  pub funcs : Entries function_of ws (module_in ws).funcs w o.index.funcs
  pub string_numbers : (s : ℕ) → s < length (module_in ws).strings → get_or w (o.layout.words + s) 0 ≡ canon_string (module_in ws).strings s
  pub type_numbers : (t : ℕ) → t < length (module_in ws).types → get_or w (2 * o.layout.words + t) 0 ≡ canon_type (module_in ws).types t
  pub marks : (s : ℕ) → s < length (module_in ws).strings → get_or w (3 * o.layout.words + s) 0 ≡ 0

-- word 4 * words + f is how many captures function f has
pub record Captured (ws w : List ℕ) (o : Opened) : Type 0 where
  pub captures : (f : ℕ) (d : Func) → f < length (module_in ws).funcs → get_or w (4 * o.layout.words + f) 0 ≡ length (get_or (module_in ws).funcs f d).captures

-- v is w but for the free words
unfoldable pub Kept : Opened → List ℕ → List ℕ → Type 0
Kept o w v = Frame (λ k. k < 5 * o.layout.words) w v

-- v is w but for the words from 6 * words on
unfoldable pub Above : Opened → List ℕ → List ℕ → Type 0
Above o w v = Frame (λ k. k < 6 * o.layout.words) w v
