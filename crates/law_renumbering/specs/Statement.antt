-- Inner words of demand 3, over the definitions alone; what is claimed is said of calls (calls/specs/Calls).
-- Two intact sheets that differ by one renumbering of the types, load accepts both or refuses both, and what it leaves agrees.
use Rattle.std.specs.Prelude.{◌≡◌, ◌↔◌, Bool, List, ℕ, ◌<◌, T, length, Some, Err}
use Rattle.error.specs.declared.LoadErrorKind.TheVariants.{ShortSlice}
use Rattle.error.specs.Answer.{in_module, is_accepted}
use Rattle.error.specs.Answer.{Loaded}
use Rattle.sheet.specs.Module.{Module}
use Rattle.sheet.specs.Decode.{decode}
use Rattle.spans.specs.Spans.{Descendant}
use Rattle.descends.specs.Descends.{descends}
use Rattle.descends.specs.Lengths.{chain_length_in}
use Rattle.load.specs.Load.{long_enough, load, table_after}
use Rattle.law_linked.specs.Find.{hooks_in, canon_in, catch_in}
use Rattle.renumber.specs.Renumber.{is_renumbering, image, renumber}

-- ── what the query is to say ──

-- yes, 1, just where t is a descendant of a; else no, 0; never 25
pub record Family (m : Module) (table : List ℕ) : Type 0 where
  pub yes : (t a : ℕ) → (descends table t a ≡ 1) ↔ Descendant m.types t a
  pub no : (t a : ℕ) → (Descendant m.types t a → ⊥) → descends table t a ≡ 0

-- ── calls ──

-- a sheet in bytes, and what the slices hold before the call
pub record Call : Type 0 where
  pub sheet : List ℕ
  pub table : List ℕ
  pub work : List ℕ

-- the answer to the call
unfoldable pub answers : List ℕ → Call → Loaded
answers hosts c = load c.sheet hosts (length c.table) (length c.work)

-- table and work have 64 + 8N words or more
unfoldable pub has_room : Call → Bool
has_room c = long_enough c.sheet (length c.table) (length c.work)

-- long enough: 24 is not given
unfoldable pub LongEnough : List ℕ → Call → Type 0
LongEnough hosts c = answers hosts c ≡ Err (in_module ShortSlice) → ⊥

unfoldable pub accepts : List ℕ → Call → Bool
accepts hosts c = is_accepted (answers hosts c)

-- the table after the call
unfoldable pub leaves : List ℕ → Call → List ℕ
leaves hosts c = table_after c.sheet hosts c.table c.work

-- ── two sheets ──

-- both sheets are intact; r takes each type of the first to its number in the second
pub record Renumbered (r first second : List ℕ) : Type 0 where
  pub source : Module
  pub renumbering : T (is_renumbering (length source.types) r)
  pub decodes : decode first ≡ Some source
  pub decodes_also : decode second ≡ Some (renumber r source)

-- what two tables, as load left them, have in common
pub record Agree (r : List ℕ) (m : Module) (left left_also : List ℕ) : Type 0 where
  -- of all numbers, unknown ones too
  pub families : (t a : ℕ) → descends left t a ≡ descends left_also (image r t) (image r a)
  -- what the query says: yes just where both are structs, and declared parents lead from t to a
  pub family : Family m left
  pub family_also : Family (renumber r m) left_also
  -- of all numbers, unknown ones too
  pub lengths : (t : ℕ) → chain_length_in left t ≡ chain_length_in left_also (image r t)
  pub canonical : (t u : ℕ) → t < length m.types → u < length m.types →
      (canon_in left t ≡ canon_in left u) ↔ (canon_in left_also (image r t) ≡ canon_in left_also (image r u))
  pub hooks : hooks_in left ≡ hooks_in left_also
  pub catches : (f : ℕ) → f < length m.funcs → catch_in left f ≡ catch_in left_also f

-- one host list: both calls are accepted or both refused; accepted, they leave tables that agree
pub record Outcome (r hosts : List ℕ) (m : Module) (first second : Call) : Type 0 where
  pub together : accepts hosts first ≡ accepts hosts second
  pub agree : T (accepts hosts first) → Agree r m (leaves hosts first) (leaves hosts second)
