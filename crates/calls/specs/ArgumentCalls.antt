-- How many arguments a call may have, said of what calls of `load` answer.
use Rattle.std.specs.Prelude.{ℕ, ◌≤◌, ◌<◌, ◌≡◌, true, not, List, [], ◌∷◌, length, get_or, None, Some, Err, Ok}
use Rattle.lists.specs.Lists.{contains, keep}
use Rattle.error.specs.declared.LoadErrorKind.TheVariants.{ArityMismatch}
use Rattle.error.specs.Answer.{Loaded}
use Rattle.error.specs.Answer.{at_position}
use Rattle.sheet.specs.Module.{Param, Import, Inst, Module, opcode, slot_d, slot_w}
use Rattle.sheet.specs.Decode.{decode}
use Rattle.imports.specs.Params.{sig_params, optional}
use Rattle.code.specs.Callee.{func_at, import_at}
use Rattle.code.specs.Code.{most_arguments, fewest_arguments, unreachable}
use Rattle.calls.specs.Calls.{Loads}
use Rattle.calls.specs.EditionCalls.{stated_edition}

-- the instruction at a position of a function
unfoldable pub inst_at : Module → ℕ → ℕ → Inst
inst_at m f pc = get_or (func_at m f).code pc unreachable

-- there is one
pub record HasInst (m : Module) (f pc : ℕ) : Type 0 where
  pub function : f < length m.funcs
  pub position : pc < length (func_at m f).code

-- it is a CallImport; a Call, TailCall or CoroNew
abbrev pub CallsImport : Inst → Type 0
CallsImport i = opcode i ≡ 21

abbrev pub CallsFunction : Inst → Type 0
CallsFunction i = contains (7 ∷ 15 ∷ 20 ∷ []) (opcode i) ≡ true

-- how many parameters the function has that it calls
abbrev pub callee_params : Module → Inst → ℕ
callee_params m i = length (sig_params m (func_at m (slot_w i)).sig)

-- found is too few, and the least was expected, or too many, and the most was
pub record Mismatch (least most found expected : ℕ) : Type 0 where
  pub few : found < least → expected ≡ least
  pub many : least ≤ found → (most < found) × (expected ≡ most)

-- 8 with these two numbers, there
abbrev pub mismatch_at : ℕ → ℕ → ℕ → ℕ → Loaded
mismatch_at f pc expected found = Err (at_position f pc (ArityMismatch expected found))

-- what the arguments of calls decide of an answer to a sheet that holds m
pub record ArgumentsAnswered (sheet : List ℕ) (m : Module) (r : Loaded) : Type 0 where
  -- acceptance means that a call of an import has neither too few nor too many
  pub imports : (l f pc : ℕ) → r ≡ Ok l → HasInst m f pc → let i = inst_at m f pc in CallsImport i →
      (fewest_arguments m (import_at m (slot_w i)) ≤ slot_d i) × (slot_d i ≤ most_arguments m (import_at m (slot_w i)))
  -- and a direct call of a function as many as its signature has
  pub functions : (l f pc : ℕ) → r ≡ Ok l → HasInst m f pc → let i = inst_at m f pc in CallsFunction i → slot_d i ≡ callee_params m i
  -- 8 at a call of an import: the fewest are expected of too few, the most of too many
  pub import_mismatch : (f pc expected found : ℕ) → r ≡ mismatch_at f pc expected found → let i = inst_at m f pc in CallsImport i →
      (found ≡ slot_d i) × Mismatch (fewest_arguments m (import_at m (slot_w i))) (most_arguments m (import_at m (slot_w i))) found expected
  -- 8 at a direct call: as many as the signature has are expected
  pub function_mismatch : (f pc expected found : ℕ) → r ≡ mismatch_at f pc expected found → let i = inst_at m f pc in CallsFunction i →
      (found ≡ slot_d i) × (expected ≡ callee_params m i) × (found ≡ expected → ⊥)
  -- the fewest are the mandatory entries of the import's list in edition 2
  pub listed : (i : Import) (ps : List Param) → stated_edition sheet ≡ 2 → i.params ≡ Some ps →
      fewest_arguments m i ≡ length (keep (λ p. not (optional p)) ps)
  -- which are no more than its signature has, where the sheet is accepted
  pub in_order : (l j : ℕ) → r ≡ Ok l → j < length m.imports → fewest_arguments m (import_at m j) ≤ most_arguments m (import_at m j)
  -- without a list they are all, and in edition 1 with one too
  pub unlisted : (i : Import) → i.params ≡ None → fewest_arguments m i ≡ most_arguments m i
  pub unread : (i : Import) → stated_edition sheet ≡ 1 → fewest_arguments m i ≡ most_arguments m i

-- of every call
unfoldable pub ArgumentsRight : Type 0
ArgumentsRight =
    (sheet hosts table work : List ℕ) (r : Loaded) (left work_left : List ℕ) (m : Module) → decode sheet ≡ Some m →
    Loads sheet hosts table work r left work_left → ArgumentsAnswered sheet m r
