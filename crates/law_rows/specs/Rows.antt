-- The rows tried by hand: what the definitions give, beside what is stated.
use Rattle.std.specs.Prelude.{ℕ, ◌+◌, ◌*◌, List, [], ◌∷◌, ◌++◌, map, ◌≡◌, Bool, true, take, replicate, None, Some}
use Rattle.lists.specs.Lists.{all_of, same, from}
use Rattle.blocks.specs.Blocks.{titled, written}
use Rattle.error.specs.Answer.{numbers, refusal}
use Rattle.sheet.specs.Module.{ValueType, ref, dyn, TypeDef, func, struct, coroutine, Const, ParamList}
use Rattle.sheet.specs.Module.{Func, Handler, Inst, Hook, Export, Module, no_module}
use Rattle.sheet.specs.Encode.{sheet_of}
use Rattle.host.specs.Host.{hosts_of}
use Rattle.table.specs.Records.{catch_table, no_handler}
use Rattle.table.specs.Table.{canon_section, spans_of, table_of}
use Rattle.descends.specs.Descends.{descends}
use Rattle.load.specs.Load.{load}

-- ── modules ──

-- of an edition, with one string
abbrev module_in : ℕ → List TypeDef → List Const → List Func → List Hook → Module
module_in e ts cs fs hs =
    record {
      edition = e;
      strings = [] ∷ [];
      types = ts;
      consts = cs;
      imports = [];
      globals = [];
      funcs = fs;
      hooks = hs;
      start+ = 0;
      exports = [];
    }

abbrev module_of : List TypeDef → List Const → List Func → List Hook → Module
module_of = module_in 1

abbrev types_in : ℕ → List TypeDef → Module
types_in e ts = module_in e ts [] [] []

abbrev of_types : List TypeDef → Module
of_types ts = types_in 1 ts

abbrev of_consts : List Const → Module
of_consts cs = module_of [] cs [] []

-- a signature
abbrev taking : List ValueType → List ValueType → TypeDef
taking ps rs = func (record { params = ps; results = rs })

-- a struct with this parent + 1 and nothing else
abbrev child : ℕ → TypeDef
child p = struct (record { name = 0; parent+ = p; fields = []; methods = [] })

-- n structs on one chain
abbrev chain_of : ℕ → List TypeDef
chain_of n = map child (from 0 n)

-- 64 structs on one chain whose topmost has a parent that is absent: struct 0 lowest, struct 0 topmost
abbrev lowest_first : List TypeDef
lowest_first = map child (from 2 63) ++ (child 1000 ∷ [])

abbrev topmost_first : List TypeDef
topmost_first = child 1000 ∷ map child (from 1 63)

-- a plain constant, then n of which each holds the one before
abbrev nested : ℕ → List Const
nested n = Const.plain 0 0 ∷ map (λ k. Const.array (k ∷ [])) (from 0 n)

abbrev inst : ℕ → ℕ → ℕ → ℕ → Inst
inst code d a w = record { low = code + 256 * d + 65536 * a; high = w }

abbrev ret_void : Inst
ret_void = inst 1 0 0 0

-- a function with a parameter list, a signature, dyn registers, handlers and code; and one without a list
abbrev function_with : ParamList → ℕ → ℕ → List Handler → List Inst → Func
function_with ps s n hs is =
    record {
      sig = s;
      regs = replicate n dyn;
      params = ps;
      shapes = [];
      captures = [];
      names = [];
      type_refs = [];
      handlers = hs;
      tables = [];
      code = is;
    }

abbrev function : ℕ → ℕ → List Handler → List Inst → Func
function = function_with None

abbrev handler : ℕ → ℕ → Handler
handler s e = record { start = s; end = e; target = 0; catch = 0 }

-- a call of function 0, which has two parameters, from five registers
abbrev calling : ℕ → Module
calling a =
    module_of (taking (dyn ∷ dyn ∷ []) [] ∷ taking [] [] ∷ []) [] (function 0 2 [] (ret_void ∷ []) ∷ function 1 5 [] (inst 15 2 a 0 ∷ ret_void ∷ []) ∷ []) []

-- hook 7 bound to a function of three dyn
abbrev hooked : List ValueType → Module
hooked results =
    module_of (taking (dyn ∷ dyn ∷ dyn ∷ []) results ∷ []) [] (function 0 3 [] (ret_void ∷ []) ∷ []) (record { hook = 7; kind = 0; index = 0 } ∷ [])

-- a function, a type, and exports under these strings
abbrev exporting : ℕ → List (List ℕ) → List Export → Module
exporting e strings es =
    record {
      edition = e;
      strings = strings;
      types = taking [] [] ∷ [];
      consts = [];
      imports = [];
      globals = [];
      funcs = function 0 0 [] (ret_void ∷ []) ∷ [];
      hooks = [];
      start+ = 0;
      exports = es;
    }

abbrev as_function : ℕ → ℕ → Export
as_function n i = record { kind = 0; name = n; index = i }

abbrev as_type : ℕ → ℕ → Export
as_type n i = record { kind = 2; name = n; index = i }

-- "a", once and twice
abbrev a : List (List ℕ)
a = (97 ∷ []) ∷ []

abbrev a_twice : List (List ℕ)
a_twice = a ++ a

-- a name that is no string; a name twice; three times; by two strings; of a function and a type
abbrev no_name : List Export
no_name = as_type 9 0 ∷ []

abbrev twice : List Export
twice = as_type 0 0 ∷ as_type 0 0 ∷ []

abbrev thrice : List Export
thrice = as_type 0 0 ∷ twice

abbrev by_two_strings : List Export
by_two_strings = as_type 0 0 ∷ as_type 1 0 ∷ []

abbrev of_two_kinds : List Export
of_two_kinds = as_function 0 0 ∷ as_type 0 0 ∷ []

-- function 0 calls the import of edition e, which has n dyn, with d arguments, from so many registers
abbrev hosting : ℕ → ℕ → ℕ → ParamList → ℕ → Module
hosting e regs n ps d =
    record {
      edition = e;
      strings = [] ∷ [];
      types = taking (replicate n dyn) [] ∷ taking [] [] ∷ [];
      consts = [];
      imports = record { module_name = 0; name = 0; sig = 0; params = ps } ∷ [];
      globals = [];
      funcs = function 1 regs [] (inst 21 d 0 0 ∷ ret_void ∷ []) ∷ [];
      hooks = [];
      start+ = 0;
      exports = [];
    }

-- a parameter list by its flags: 0 mandatory, 1 by reference, 2 optional, 3 both
abbrev listed : List ℕ → ParamList
listed flags = Some (map (λ f. record { flags = f; name+ = 0 }) flags)

-- the surcharge, second of two, may be left out
abbrev surcharge : ParamList
surcharge = listed (0 ∷ 2 ∷ [])

-- a function has that list, and is called with one argument
abbrev own_list : Module
own_list =
    let callee = function_with surcharge 0 2 [] (ret_void ∷ []) in
    let caller = function 1 5 [] (inst 15 1 0 0 ∷ ret_void ∷ []) in
    module_in 2 (taking (dyn ∷ dyn ∷ []) [] ∷ taking [] [] ∷ []) [] (callee ∷ caller ∷ []) []

-- ── what the definitions give ──

-- does t descend from a, by the table
abbrev family_of : List TypeDef → ℕ → ℕ → List ℕ
family_of ts t a = descends (table_of [] (of_types ts)) t a ∷ []

-- function 0 has no code, function 1 no signature
abbrev second_unsigned : Module
second_unsigned = module_of (taking [] [] ∷ []) [] (function 0 0 [] [] ∷ function 7 0 [] [] ∷ []) []

-- a tail call at position 1, where one of two handlers has ended
abbrev tail_under_one : Module
tail_under_one = module_of (taking [] [] ∷ []) [] (function 0 1 (handler 0 1 ∷ handler 0 2 ∷ []) (ret_void ∷ inst 7 0 0 0 ∷ []) ∷ []) []

-- more words than any sheet below needs
abbrev room : ℕ
room = 100000

abbrev answer_to : List ℕ → List ℕ
answer_to sheet = numbers (load sheet (hosts_of []) room room)

abbrev answer_of : Module → List ℕ
answer_of m = answer_to (sheet_of m)

-- under a host list that has the one function of `hosting`
abbrev hosted_of : Module → List ℕ
hosted_of m = numbers (load (sheet_of m) (hosts_of (record { module_name = []; name = []; kind = 0 } ∷ [])) room room)

-- a call with d arguments from six registers, and its answer or that it passes
abbrev called : ℕ → ℕ → ParamList → ℕ → List ℕ
called e n ps d = hosted_of (hosting e 6 n ps d)

abbrev call_passes : ℕ → ℕ → ParamList → ℕ → List ℕ × List ℕ
call_passes e n ps d = (take 1 (called e n ps d), 0 ∷ [])

-- 8 at the call
abbrev expecting : ℕ → ℕ → List ℕ
expecting r d = 8 ∷ 0 ∷ r ∷ d ∷ 1 ∷ 1 ∷ []

abbrev span_words : List TypeDef → List ℕ
span_words ts = spans_of (of_types ts)

abbrev kind_of : Module → List ℕ
kind_of m = take 1 (answer_of m)

-- words 1, 11, nine zeros; check 56
abbrev empty_sheet : List ℕ
empty_sheet = (1 ∷ 0 ∷ 0 ∷ 0 ∷ 11 ∷ []) ++ replicate 503 0 ++ (56 ∷ 0 ∷ 0 ∷ 0 ∷ [])

abbrev two_under_one : List TypeDef
two_under_one = child 3 ∷ child 3 ∷ child 0 ∷ []

abbrev nine : List Handler
nine = handler 2 6 ∷ handler 0 4 ∷ replicate 7 (handler 0 1)

abbrev seven : List Inst
seven = replicate 7 ret_void

abbrev passes : List ℕ
passes = 0 ∷ []

-- 27 with a name's number, 28 with an export's place
abbrev named : ℕ → ℕ → List ℕ
named kind n = kind ∷ 0 ∷ n ∷ 0 ∷ 0 ∷ 0 ∷ []

-- ── the rows ──

-- the two long lists and the two long chains are the last
unfoldable pub rows : List (List ℕ × List ℕ)
rows =
    (answer_to empty_sheet, 0 ∷ 0 ∷ 49 ∷ 0 ∷ 0 ∷ 0 ∷ [])
    ∷ (sheet_of no_module, empty_sheet)
    ∷ (span_words two_under_one, 3 ∷ 1 ∷ 2 ∷ 2 ∷ 2 ∷ 3 ∷ 2 ∷ 0 ∷ 3 ∷ 1 ∷ [])
    ∷ (kind_of (of_types two_under_one), passes)
    ∷ (answer_of (of_types (child 1 ∷ [])), refusal 17)
    ∷ (canon_section (of_types (coroutine ∷ coroutine ∷ TypeDef.array (ref 0) ∷ TypeDef.array (ref 1) ∷ [])), 4 ∷ 0 ∷ 0 ∷ 2 ∷ 3 ∷ [])
    ∷ (answer_of (of_consts (Const.array (0 ∷ []) ∷ [])), refusal 18)
    ∷ (kind_of (of_consts (nested 64)), passes)
    ∷ (answer_of (of_consts (nested 65)), refusal 18)
    ∷ (catch_table (function 0 1 nine seven), 1 ∷ 7 ∷ 1 ∷ 1 ∷ 0 ∷ 0 ∷ 0 ∷ 0 ∷ no_handler ∷ [])
    ∷ (catch_table (function 0 1 (take 8 nine) seven), 0 ∷ [])
    ∷ (kind_of (calling 2), passes)
    ∷ (answer_of (calling 3), 3 ∷ 5 ∷ 5 ∷ 0 ∷ 2 ∷ 1 ∷ [])
    ∷ (kind_of (hooked []), passes)
    ∷ (answer_of (hooked (dyn ∷ [])), 19 ∷ 0 ∷ 7 ∷ 0 ∷ 0 ∷ 0 ∷ [])
    ∷ (family_of (coroutine ∷ child 0 ∷ []) 0 1, 0 ∷ [])
    ∷ (family_of two_under_one 0 2, 1 ∷ [])
    ∷ (family_of two_under_one 2 0, 0 ∷ [])
    ∷ (family_of two_under_one 0 3, 0 ∷ [])
    ∷ (descends (replicate 9 1) 0 0 ∷ [], 25 ∷ [])
    ∷ (answer_of tail_under_one, 15 ∷ 0 ∷ 0 ∷ 0 ∷ 1 ∷ 2 ∷ [])
    ∷ (answer_of second_unsigned, 3 ∷ 1 ∷ 7 ∷ 0 ∷ 2 ∷ 0 ∷ [])
    ∷ (kind_of (types_in 2 (chain_of 64)), passes)
    ∷ (answer_of (types_in 2 (chain_of 65)), refusal 17)
    ∷ (kind_of (of_types (chain_of 65)), passes)
    ∷ (answer_of (types_in 2 lowest_first), refusal 17)
    ∷ (answer_of (types_in 2 topmost_first), refusal 16)
    ∷ (answer_of (types_in 2 (child 1 ∷ [])), refusal 17)
    ∷ (answer_of (types_in 3 []), refusal 1)
    ∷ (answer_of (types_in 0 []), refusal 1)
    ∷ (numbers (load empty_sheet (written (titled 2 (0 ∷ []))) room room), refusal 23)
    ∷ (answer_of (exporting 2 a no_name), named 27 9)
    ∷ (answer_of (exporting 2 a (no_name ++ (as_type 0 7 ∷ []))), named 27 9)
    ∷ (answer_of (exporting 2 a (as_type 9 7 ∷ [])), 3 ∷ 1 ∷ 7 ∷ 0 ∷ 0 ∷ 0 ∷ [])
    ∷ (answer_of (exporting 2 a (as_type 0 0 ∷ as_type 0 7 ∷ [])), 3 ∷ 1 ∷ 7 ∷ 0 ∷ 0 ∷ 0 ∷ [])
    ∷ (answer_of (exporting 2 a twice), named 28 1)
    ∷ (answer_of (exporting 2 a (twice ++ no_name)), named 28 1)
    ∷ (answer_of (exporting 2 a thrice), named 28 1)
    ∷ (answer_of (exporting 2 a_twice by_two_strings), named 28 1)
    ∷ (answer_of (exporting 2 a of_two_kinds), named 28 1)
    ∷ (answer_of (exporting 2 ([] ∷ a) (as_type 0 0 ∷ as_type 1 0 ∷ as_type 2 0 ∷ [])), named 27 2)
    ∷ (kind_of (exporting 2 ([] ∷ a) (as_type 0 0 ∷ as_type 1 0 ∷ [])), passes)
    ∷ (kind_of (exporting 1 a_twice (no_name ++ thrice ++ by_two_strings ++ of_two_kinds)), passes)
    ∷ (called 2 2 surcharge 0, expecting 1 0)
    ∷ call_passes 2 2 surcharge 1
    ∷ call_passes 2 2 surcharge 2
    ∷ (called 2 2 surcharge 3, expecting 2 3)
    ∷ (called 1 2 surcharge 1, expecting 2 1)
    ∷ call_passes 1 2 surcharge 2
    ∷ call_passes 2 2 (listed (2 ∷ 2 ∷ [])) 0
    ∷ (called 2 2 (listed (0 ∷ 1 ∷ [])) 1, expecting 2 1)
    ∷ call_passes 2 2 (listed (1 ∷ 3 ∷ [])) 1
    ∷ (called 2 2 None 1, expecting 2 1)
    ∷ call_passes 2 2 None 2
    ∷ call_passes 2 0 (listed []) 0
    ∷ (called 2 0 (listed []) 1, expecting 0 1)
    ∷ (hosted_of (hosting 2 3 2 surcharge 3), 3 ∷ 5 ∷ 3 ∷ 0 ∷ 1 ∷ 1 ∷ [])
    ∷ (answer_of own_list, 8 ∷ 0 ∷ 2 ∷ 1 ∷ 2 ∷ 1 ∷ [])
    ∷ (take 1 (hosted_of (hosting 2 256 256 (listed (replicate 256 2)) 255)), 0 ∷ [])
    ∷ (hosted_of (hosting 2 256 256 (listed (replicate 256 0)) 255), expecting 256 255)
    ∷ (kind_of (of_types (chain_of 256)), passes)
    ∷ (answer_of (of_types (chain_of 257)), refusal 17)
    ∷ []

-- what is given is what is stated
unfoldable pub holds : List ℕ × List ℕ → Bool
holds r = same r.0 r.1

unfoldable pub RowsHold : Type 0
RowsHold = all_of holds rows ≡ true
