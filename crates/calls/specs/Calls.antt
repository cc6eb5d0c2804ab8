-- Demands 1 and 3 and the family, said of what calls of `load`, `descends` and `chain_length` answer and write.
use Rattle.std.specs.Prelude.{◌≡◌, ◌↔◌, Bool, true, false, List, [], ◌∷◌, ◌++◌, ℕ, ◌<◌, length, get_or, take, drop, replicate, None, Some}
use Rattle.std.specs.Prelude.{Err, Ok}
use Rattle.lists.specs.Lists.{all_of, contains}
use Rattle.blocks.specs.Blocks.{is_byte, is_word}
use Rattle.error.specs.declared.LoadErrorKind.TheVariants.{Decode, BadHostList, ShortSlice}
use Rattle.error.specs.declared.LoadError.{LoadError}
use Rattle.error.specs.Answer.{Loaded}
use Rattle.error.specs.Answer.{kind_numbers, numbers, refusal, is_accepted, in_module}
use Rattle.sheet.specs.Module.{Module}
use Rattle.sheet.specs.Decode.{decode}
use Rattle.host.specs.Host.{HostFn, decode_hosts}
use Rattle.spans.specs.Spans.{Descendant}
use Rattle.descends.specs.Descends.{descends}
use Rattle.descends.specs.Lengths.{ChainLength, chain_length_in}
use Rattle.table.specs.Table.{table_of}
use Rattle.load.specs.Load.{faults_of, long_enough, load, table_after, work_after}
use Rattle.law_linked.specs.Find.{hooks_in, canon_in, catch_in}
use Rattle.renumber.specs.Renumber.{image, renumber, RenumberedSheet}

-- ── calls ──

-- r is answered, and the slices hold left and work_left after it: what `load` of crate loader ensures, so each call of it gives one
pub record Loads (sheet hosts table work : List ℕ) (r : Loaded) (left work_left : List ℕ) : Type 0 where
  pub answers : r ≡ load sheet hosts (length table) (length work)
  pub leaves : left ≡ table_after sheet hosts table work
  pub clears : work_left ≡ work_after sheet hosts table work

-- the same call for C and Rust, which gives the six numbers: what `paqlluri_load` of crate paqlluri ensures
pub record LoadsNumbers (sheet hosts table work six left work_left : List ℕ) : Type 0 where
  pub answered : Loaded
  pub loads : Loads sheet hosts table work answered left work_left
  pub numbered : six ≡ numbers answered

-- x is answered: what `descends` of crate query and `paqlluri_descends` ensure, so each call of them gives one
pub record Asks (table : List ℕ) (t a x : ℕ) : Type 0 where
  pub answers : x ≡ descends table t a

-- x is answered: what `chain_length` of crate query ensures, so each call of it gives one
pub record AsksLength (table : List ℕ) (t : ℕ) (x : ChainLength) : Type 0 where
  pub answers : x ≡ chain_length_in table t

-- ── demand 1: refuses right ──

-- 1, 23 and 24, given before any rule
unfoldable pub is_early : Loaded → Bool
is_early (Ok l) = false
is_early (Err e) = contains (1 ∷ 23 ∷ 24 ∷ []) (get_or (kind_numbers e.kind) 0 0)

-- a is answered exactly where P holds, and so are the six numbers
unfoldable pub Exactly : Loaded → Loaded → List ℕ → Type 0 → Type 0
Exactly r a six P = ((r ≡ a) ↔ P) × ((numbers r ≡ six) ↔ P)

-- the answer: the cases leave nothing out
pub record Verdict (sheet hosts : List ℕ) (table work : ℕ) (r : Loaded) : Type 0 where
  -- 1 exactly where nothing is decoded
  pub broken_sheet : Exactly r (Err (in_module Decode)) (refusal 1) (decode sheet ≡ None)
  -- 23 exactly where the host list is not
  pub broken_hosts : (m : Module) → decode sheet ≡ Some m →
      Exactly r (Err (in_module BadHostList)) (refusal 23) (decode_hosts hosts ≡ None)
  -- 24 exactly where table or work is too short
  pub short_slice : (m : Module) (hs : List HostFn) → decode sheet ≡ Some m → decode_hosts hosts ≡ Some hs →
      Exactly r (Err (in_module ShortSlice)) (refusal 24) (long_enough sheet table work ≡ false)
  -- accepted exactly where no rule is broken, and with so many words
  pub accepted : (m : Module) (hs : List HostFn) (l : ℕ) → decode sheet ≡ Some m → decode_hosts hosts ≡ Some hs → long_enough sheet table work ≡ true →
      Exactly r (Ok l) (0 ∷ 0 ∷ l ∷ 0 ∷ 0 ∷ 0 ∷ [])
      ((faults_of hs m ≡ []) × (l ≡ length (table_of hs m)))
  -- else refused for the first that is: its kind in four numbers, then its place
  pub refused : (m : Module) (hs : List HostFn) (e : LoadError) (es : List LoadError) → decode sheet ≡ Some m → decode_hosts hosts ≡ Some hs →
      long_enough sheet table work ≡ true → faults_of hs m ≡ e ∷ es →
      (r ≡ Err e) × (numbers r ≡ kind_numbers e.kind ++ (e.func ∷ e.pc ∷ []))

-- the slices after the call
pub record Slices (sheet hosts table work : List ℕ) (r : Loaded) (left work_left : List ℕ) : Type 0 where
  -- a refusal leaves the table as it was
  pub kept : (e : LoadError) → r ≡ Err e → left ≡ table
  -- acceptance with l words writes the linked table
  pub linked : (l : ℕ) (m : Module) (hs : List HostFn) → r ≡ Ok l → decode sheet ≡ Some m → decode_hosts hosts ≡ Some hs →
      take l left ≡ table_of hs m
  -- and changes the first l words only
  pub rest : (l : ℕ) → r ≡ Ok l → drop l left ≡ drop l table
  -- 1, 23 and 24 leave work as it was
  pub work_kept : is_early r ≡ true → work_left ≡ work
  -- after any other answer it is zero
  pub work_zero : is_early r ≡ false → work_left ≡ replicate (length work) 0

-- of every call
unfoldable pub RefusesRight : Type 0
RefusesRight =
    (sheet hosts table work : List ℕ) (r : Loaded) (left work_left : List ℕ) → Loads sheet hosts table work r left work_left →
    Verdict sheet hosts (length table) (length work) r × Slices sheet hosts table work r left work_left

-- ── the family ──

-- words that begin with the first l of those left: the linked table as it is passed on, alone or with any rest
unfoldable pub Begins : ℕ → List ℕ → List ℕ → Type 0
Begins l left words = take l words ≡ take l left

-- every query on the table answers yes, 1, just where t is a descendant of a; else no, 0; never 25
pub record FamilyAsked (m : Module) (table : List ℕ) : Type 0 where
  pub yes : (t a x : ℕ) → Asks table t a x → (x ≡ 1) ↔ Descendant m.types t a
  pub no : (t a x : ℕ) → Asks table t a x → (Descendant m.types t a → ⊥) → x ≡ 0

-- of every call that accepts an intact sheet with l words, on what it left and on any words that begin so
unfoldable pub FamilyRight : Type 0
FamilyRight =
    (sheet hosts table work : List ℕ) (l : ℕ) (left work_left : List ℕ) (m : Module) → decode sheet ≡ Some m →
    Loads sheet hosts table work (Ok l) left work_left → (words : List ℕ) → Begins l left words → FamilyAsked m words

-- ── demand 3: numbering does not matter ──

-- 24 is not answered
unfoldable pub NotShort : Loaded → Type 0
NotShort r = r ≡ Err (in_module ShortSlice) → ⊥

-- what two tables have in common; r takes each type of the first sheet to its number in the second
pub record AgreeAsked (r : List ℕ) (m : Module) (left left_also : List ℕ) : Type 0 where
  -- of all numbers, unknown ones too
  pub families : (t a x y : ℕ) → Asks left t a x → Asks left_also (image r t) (image r a) y → x ≡ y
  pub family : FamilyAsked m left
  pub family_also : FamilyAsked (renumber r m) left_also
  -- of all numbers, unknown ones too
  pub lengths : (t : ℕ) (x y : ChainLength) → AsksLength left t x → AsksLength left_also (image r t) y → x ≡ y
  pub canonical : (t u : ℕ) → t < length m.types → u < length m.types →
      (canon_in left t ≡ canon_in left u) ↔ (canon_in left_also (image r t) ≡ canon_in left_also (image r u))
  pub hooks : hooks_in left ≡ hooks_in left_also
  pub catches : (f : ℕ) → f < length m.funcs → catch_in left f ≡ catch_in left_also f

-- both accepted or both refused; accepted with l and k words, what they left agrees, and so do any words that begin so
pub record Alike (r : List ℕ) (m : Module) (x y : Loaded) (left left_also : List ℕ) : Type 0 where
  pub together : is_accepted x ≡ is_accepted y
  pub agree : (l k : ℕ) → x ≡ Ok l → y ≡ Ok k → (words words_also : List ℕ) → Begins l left words → Begins k left_also words_also →
      AgreeAsked r m words words_also

-- of every two calls under one host list on sheets that differ by one renumbering, whatever the slices hold
unfoldable pub NumberingFree : Type 0
NumberingFree =
    (r hosts first second : List ℕ) (w : RenumberedSheet r first second) →
    (table work : List ℕ) (x : Loaded) (left work_left : List ℕ) → Loads first hosts table work x left work_left → NotShort x →
    (table_also work_also : List ℕ) (y : Loaded) (left_also work_left_also : List ℕ) → Loads second hosts table_also work_also y left_also work_left_also → NotShort y →
    Alike r w.source x y left left_also

-- ── cheap loaders ──

-- what code can be lent: slices of bytes and of words
pub record Lent (sheet hosts table work : List ℕ) : Type 0 where
  pub sheet_holds : all_of is_byte sheet ≡ true
  pub hosts_hold : all_of is_byte hosts ≡ true
  pub table_holds : all_of is_word table ≡ true
  pub work_holds : all_of is_word work ≡ true

-- whatever answers and writes as `load` does, on any bytes and slices of words
pub record Loader : Type 0 where
  pub answer : List ℕ → List ℕ → List ℕ → List ℕ → Loaded
  pub table : List ℕ → List ℕ → List ℕ → List ℕ → List ℕ
  pub work : List ℕ → List ℕ → List ℕ → List ℕ → List ℕ
  pub loads : (s h t w : List ℕ) → Lent s h t w → Loads s h t w (answer s h t w) (table s h t w) (work s h t w)

-- none gives one answer to all
unfoldable pub NoConstant : Type 0
NoConstant = (f : Loader) (r : Loaded) → ((s h t w : List ℕ) → Lent s h t w → f.answer s h t w ≡ r) → ⊥

-- none leaves every table as it was
unfoldable pub NoIdle : Type 0
NoIdle = (f : Loader) → ((s h t w : List ℕ) → Lent s h t w → f.table s h t w ≡ t) → ⊥
