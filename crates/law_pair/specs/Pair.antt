-- `numbering_free` is about something: two sheets that differ by a renumbering, two calls that accept them, and what is carried over.
use Rattle.std.specs.Prelude.{◌≡◌, List, [], ◌∷◌, ◌++◌, ℕ, get_or, replicate, None, Ok}
use Rattle.std.proofs.Math.Path.{refl}
use Rattle.std.proofs.Common.{sym, ◌∙◌, arith}
use Rattle.error.specs.Answer.{Loaded}
use Rattle.error.specs.Answer.{numbers}
use Rattle.sheet.specs.Module.{dyn, func, TypeDef, struct, coroutine, Handler, Inst, Func, Module}
use Rattle.sheet.specs.Encode.{sheet_of}
use Rattle.host.specs.Host.{hosts_of}
use Rattle.table.specs.Records.{no_handler}
use Rattle.law_linked.specs.Find.{section_from, counted, after_counted, hooks_in, canon_in}
use Rattle.law_linked.specs.Find.{to_catch, catch_first, after_catch, after_funcs, catch_in}
use Rattle.descends.specs.Descends.{descends}
use Rattle.load.specs.Load.{load, table_after, work_after}
use Rattle.renumber.specs.Renumber.{image, renumber, RenumberedSheet}
use Rattle.law_everything.specs.Everything.{everything}
use Rattle.calls.specs.Calls.{Loads, Asks, NotShort, Begins, AgreeAsked, NumberingFree}
use Rattle.calls.proofs.CallLaws.{numbering_free}

-- ── two sheets ──

abbrev child : ℕ → TypeDef
child p = struct (record { name = 0; parent+ = p; fields = []; methods = [] })

abbrev handler : ℕ → ℕ → Handler
handler s e = record { start = s; end = e; target = 0; catch = 0 }

abbrev ret_void : Inst
ret_void = record { low = 1; high = 0 }

-- three dyn registers, nine handlers over seven instructions
abbrev guarded : Func
guarded =
    record {
      sig = 4;
      regs = dyn ∷ dyn ∷ dyn ∷ [];
      params = None;
      shapes = [];
      captures = [];
      names = [];
      type_refs = [];
      handlers = handler 2 6 ∷ handler 0 4 ∷ replicate 7 (handler 0 1);
      tables = [];
      code = replicate 7 ret_void;
    }

-- struct 0 is below struct 2, types 1 and 3 are equal, and the function of signature 4 is bound to hook 7
abbrev family : ℕ → Module
family e =
    record {
      edition = e;
      strings = [] ∷ [];
      types = child 3 ∷ coroutine ∷ child 0 ∷ coroutine ∷ func (record { params = dyn ∷ dyn ∷ dyn ∷ []; results = [] }) ∷ [];
      consts = [];
      imports = [];
      globals = [];
      funcs = guarded ∷ [];
      hooks = record { hook = 7; kind = 0; index = 0 } ∷ [];
      start+ = 0;
      exports = [];
    }

abbrev turn : List ℕ
turn = 1 ∷ 2 ∷ 0 ∷ 4 ∷ 3 ∷ []

abbrev sheet_in : ℕ → List ℕ
sheet_in e = sheet_of (family e)

abbrev turned_in : ℕ → List ℕ
turned_in e = sheet_of (renumber turn (family e))

abbrev sheet : List ℕ
sheet = sheet_in 1

abbrev turned : List ℕ
turned = turned_in 1

pair : RenumberedSheet turn sheet turned
unfolding everything
pair = record { source = family 1; bytes = refl; intact = refl; renumbers = tt; written = refl }

-- and one of edition 2
pair_second : RenumberedSheet turn (sheet_in 2) (turned_in 2)
unfolding everything
pair_second = record { source = family 2; bytes = refl; intact = refl; renumbers = tt; written = refl }

-- ── two calls ──

abbrev slice : List ℕ
slice = replicate 1000 7

abbrev answer : List ℕ → Loaded
answer s = load s (hosts_of []) 1000 1000

-- the table that a call leaves
abbrev left : List ℕ → List ℕ
left s = table_after s (hosts_of []) slice slice

calling : (s : List ℕ) → Loads s (hosts_of []) slice slice (answer s) (left s) (work_after s (hosts_of []) slice slice)
calling s = record { answers = refl; leaves = refl; clears = refl }

-- the words of the table
abbrev words : List ℕ → ℕ
words s = get_or (numbers (answer s)) 2 0

-- both sheets of an edition are accepted
abbrev BothAccepted : ℕ → Type 0
BothAccepted e = (answer (sheet_in e) ≡ Ok (words (sheet_in e))) × (answer (turned_in e) ≡ Ok (words (turned_in e)))

accepted : BothAccepted 1
unfolding everything
accepted = (refl, refl)

accepted_second : BothAccepted 2
unfolding everything
accepted_second = (refl, refl)

not_short : (s : List ℕ) → answer s ≡ Ok (words s) → NotShort (answer s)
unfolding NotShort
not_short s e q = let z : ◌≡◌ {A = ℕ} 0 1 = cc in omega arith

-- what the theorem gives
module _ (e : ℕ) (w : RenumberedSheet turn (sheet_in e) (turned_in e)) (a : BothAccepted e) where
  alike : AgreeAsked turn w.source (left (sheet_in e)) (left (turned_in e))
  unfolding NumberingFree Begins
  alike =
      let s = sheet_in e in
      let t = turned_in e in
      (numbering_free turn (hosts_of []) s t w
      slice slice (answer s) (left s) (work_after s (hosts_of []) slice slice) (calling s) (not_short s a.0)
      slice slice (answer t) (left t) (work_after t (hosts_of []) slice slice) (calling t) (not_short t a.1)
      ).agree (words s) (words t) a.0 a.1 (left s) (left t) refl refl

agreed : AgreeAsked turn (family 1) (left sheet) (left turned)
unfolding pair
agreed = alike 1 pair accepted

-- ── carried over ──

-- the catch table and the hooks of the first table
abbrev caught : List ℕ
caught = 1 ∷ 7 ∷ 1 ∷ 1 ∷ 0 ∷ 0 ∷ 0 ∷ 0 ∷ no_handler ∷ []

abbrev bound : List ℕ
bound = 31 ∷ replicate 7 0 ++ (1 ∷ replicate 23 0)

-- of the first table by computing
first_table : (descends (left sheet) 0 2 ≡ 1) × (canon_in (left sheet) 1 ≡ canon_in (left sheet) 3)
    × (hooks_in (left sheet) ≡ bound) × (catch_in (left sheet) 0 ≡ caught)
unfolding everything section_from counted after_counted hooks_in canon_in to_catch catch_first after_catch after_funcs catch_in
first_table = (refl, refl, refl, refl)

ask : (s : List ℕ) (t a : ℕ) → Asks (left s) t a (descends (left s) t a)
ask s t a = record { answers = refl }

-- 0 is below 2, and so are their images
pub below : descends (left turned) 1 0 ≡ 1
unfolding image
below =
    sym (agreed.families 0 2 (descends (left sheet) 0 2) (descends (left turned) 1 0) (ask sheet 0 2) (ask turned 1 0))
    ∙ first_table.0

-- 1 and 3 are equal, and so are theirs
pub equal : canon_in (left turned) 2 ≡ canon_in (left turned) 4
unfolding image
equal = (agreed.canonical 1 3 (omega arith) (omega arith)).0 first_table.1

pub hooked : hooks_in (left turned) ≡ bound
hooked = sym agreed.hooks ∙ first_table.2

pub guards : catch_in (left turned) 0 ≡ caught
guards = sym (agreed.catches 0 (omega arith)) ∙ first_table.3

-- in edition 2 as well
pub below_second : descends (left (turned_in 2)) 1 0 ≡ 1
unfolding everything
below_second =
    sym ((alike 2 pair_second accepted_second).families 0 2 1 (descends (left (turned_in 2)) 1 0)
    (record { answers = refl }) (ask (turned_in 2) 1 0))
