-- The six numbers tell every two answers apart, and each kind has the number that it is listed with.
use Rattle.std.specs.Prelude.{ℕ, ◌≡◌, refl, List, [], ◌∷◌, ◌++◌, Bool, true, false, cond, eqb, get_or}
use Rattle.std.proofs.Common.{sym, ap, ◌∙◌}
use Rattle.error.specs.declared.What.{What}
use Rattle.error.specs.declared.What.TheVariants.{Types, Functions, Strings, Constants, Registers, Imports, Globals, BranchTargets}
use Rattle.error.specs.declared.What.TheVariants.{TableTargets, Tables, Names, TypeRefs, Captures, CallShapes}
use Rattle.error.specs.declared.TypeKind.{TypeKind}
use Rattle.error.specs.declared.TypeKind.TheVariants.{Struct, Array, Map, Cell}
use Rattle.error.specs.declared.LoadErrorKind.{LoadErrorKind}
use Rattle.error.specs.declared.LoadErrorKind.TheVariants.{Decode, UnresolvedImport, OutOfRange, BadSignature, ParamMismatch}
use Rattle.error.specs.declared.LoadErrorKind.TheVariants.{EmptyCode, FallsThrough, ArityMismatch, CalleeHasCaptures}
use Rattle.error.specs.declared.LoadErrorKind.TheVariants.{PromoteNotDynamic, WrongTypeKind, BadModifier, InvalidHandler}
use Rattle.error.specs.declared.LoadErrorKind.TheVariants.{CatchNotDyn, TailCallInTry, BadParent, InheritanceTooDeep, BadConstant}
use Rattle.error.specs.declared.LoadErrorKind.TheVariants.{BadHook, BadStart, BadParamList, BadCallShape, BadHostList, ShortSlice}
use Rattle.error.specs.declared.LoadErrorKind.TheVariants.{NotLinked, MissedStruct, ExportNameOutOfRange, DuplicateExport}
use Rattle.error.specs.declared.LoadError.{LoadError}
use Rattle.error.specs.Answer.{Loaded}
use Rattle.std.specs.Prelude.{Err, Ok}
use Rattle.error.specs.Answer.{what_word, type_kind_word, kind_numbers, numbers}
use Rattle.error.specs.Answer.{is_accepted, string_number, KindsListed, WordsListed, NumbersTell}

-- ── from the numbers back to the answer ──

whats : List What
whats =
    Types ∷ Functions ∷ Strings ∷ Constants ∷ Registers ∷ Imports ∷ Globals ∷ BranchTargets ∷ TableTargets ∷ Tables ∷ Names
    ∷ TypeRefs ∷ Captures ∷ CallShapes ∷ []

what_of : ℕ → What
what_of w = get_or (Types ∷ whats) w Types

wanted_of : ℕ → TypeKind
wanted_of w = get_or (Struct ∷ Struct ∷ Array ∷ Map ∷ Cell ∷ []) w Struct

-- the kind with these four numbers, by the first of them
kind_of : ℕ → ℕ → ℕ → ℕ → LoadErrorKind
kind_of k w n s =
    get_or (
    Decode ∷ Decode ∷ UnresolvedImport (string_number n) (string_number s) ∷ OutOfRange (what_of w) n ∷ BadSignature ∷ ParamMismatch
    ∷ EmptyCode ∷ FallsThrough ∷ ArityMismatch n s ∷ CalleeHasCaptures ∷ PromoteNotDynamic ∷ WrongTypeKind (wanted_of w)
    ∷ BadModifier ∷ InvalidHandler ∷ CatchNotDyn ∷ TailCallInTry ∷ BadParent ∷ InheritanceTooDeep ∷ BadConstant ∷ BadHook n
    ∷ BadStart ∷ BadParamList ∷ BadCallShape ∷ BadHostList ∷ ShortSlice ∷ NotLinked ∷ MissedStruct
    ∷ ExportNameOutOfRange (string_number n) ∷ DuplicateExport n ∷ []) k Decode

refusal_of : List ℕ → LoadError
refusal_of six =
    record { kind = kind_of (get_or six 0 0) (get_or six 1 0) (get_or six 2 0) (get_or six 3 0); func = get_or six 4 0; pc = get_or six 5 0 }

told : List ℕ → Loaded
told six = cond (eqb (get_or six 0 0) 0) (Ok (get_or six 2 0)) (Err (refusal_of six))

-- ── each case by computing ──

what_told : (what : What) → what_of (what_word what) ≡ what
unfolding whats what_of what_word
what_told Types = refl
what_told Functions = refl
what_told Strings = refl
what_told Constants = refl
what_told Registers = refl
what_told Imports = refl
what_told Globals = refl
what_told BranchTargets = refl
what_told TableTargets = refl
what_told Tables = refl
what_told Names = refl
what_told TypeRefs = refl
what_told Captures = refl
what_told CallShapes = refl

wanted_told : (wanted : TypeKind) → wanted_of (type_kind_word wanted) ≡ wanted
unfolding wanted_of type_kind_word
wanted_told Struct = refl
wanted_told Array = refl
wanted_told Map = refl
wanted_told Cell = refl

refused_told : (k : LoadErrorKind) (f p : ℕ) → told (kind_numbers k ++ (f ∷ p ∷ [])) ≡ Err (record { kind = k; func = f; pc = p })
unfolding told refusal_of kind_of kind_numbers
refused_told Decode f p = refl
refused_told (UnresolvedImport m n) f p = refl
refused_told (OutOfRange what i) f p = ap (λ w. Err (record { kind = OutOfRange w i; func = f; pc = p })) (what_told what)
refused_told BadSignature f p = refl
refused_told ParamMismatch f p = refl
refused_told EmptyCode f p = refl
refused_told FallsThrough f p = refl
refused_told (ArityMismatch expected found) f p = refl
refused_told CalleeHasCaptures f p = refl
refused_told PromoteNotDynamic f p = refl
refused_told (WrongTypeKind wanted) f p = ap (λ w. Err (record { kind = WrongTypeKind w; func = f; pc = p })) (wanted_told wanted)
refused_told BadModifier f p = refl
refused_told InvalidHandler f p = refl
refused_told CatchNotDyn f p = refl
refused_told TailCallInTry f p = refl
refused_told BadParent f p = refl
refused_told InheritanceTooDeep f p = refl
refused_told BadConstant f p = refl
refused_told (BadHook hook) f p = refl
refused_told BadStart f p = refl
refused_told BadParamList f p = refl
refused_told BadCallShape f p = refl
refused_told BadHostList f p = refl
refused_told ShortSlice f p = refl
refused_told NotLinked f p = refl
refused_told MissedStruct f p = refl
refused_told (ExportNameOutOfRange name) f p = refl
refused_told (DuplicateExport i) f p = refl

numbers_told : (r : Loaded) → told (numbers r) ≡ r
unfolding told numbers
numbers_told (Ok l) = refl
numbers_told (Err e) = refused_told e.kind e.func e.pc

-- ── theorems ──

pub numbers_tell : NumbersTell
unfolding NumbersTell
numbers_tell r s e = sym (numbers_told r) ∙ ap told e ∙ numbers_told s

pub kinds_listed : KindsListed
unfolding KindsListed kind_numbers
kinds_listed m n what i expected found wanted hook name place = refl

pub words_listed : WordsListed
unfolding WordsListed what_word type_kind_word
words_listed = (refl, refl)

by_first : (b : Bool) (l : ℕ) (e : LoadError) → is_accepted (cond b (Ok l) (Err e)) ≡ b
unfolding is_accepted
by_first true l e = refl
by_first false l e = refl

-- accepted is kind 0
pub accepted_zero : (r : Loaded) → is_accepted r ≡ eqb (get_or (numbers r) 0 0) 0
unfolding told
accepted_zero r =
    let six = numbers r in
    ap is_accepted (sym (numbers_told r)) ∙ by_first (eqb (get_or six 0 0) 0) (get_or six 2 0) (refusal_of six)
