-- How many arguments a call may have, of every call.
use Prim.Native.Nat.{ℕ, zero, suc, ◌+◌, ◌≤◌, ◌<◌, max}
use Rattle.std.specs.Prelude.{◌≡◌, false, not, ◌&&◌, ◌||◌, length, get_or, None, Some, Ok}
use Rattle.std.proofs.Math.Path.{refl, sym, ap, subst}
use Rattle.std.proofs.Common.{◌∙◌, arith}
use Rattle.std.proofs.Math.Bool.{Bool, true, or-true}
use mathlib.Core.List.{List, [], ◌∷◌, ◌++◌, map, append-nil, append_assoc}
use Rattle.std.proofs.Math.Decide.{dec_lt}
use Rattle.std.proofs.Math.Dec.{eqb, ltb}
use borrow.Author.Tests.{eq-eqb, ne_eqb, eqb-true}
use Rattle.lists.specs.Lists.{all_of, any_of, all_pairs, concat_map, concat_map_from}
use Rattle.lists.specs.ListLaws.{T_true, both, and_first, and_second, all_append}
use Rattle.lists.specs.AllLaws.{all_join, all_each_from, any_found}
use Rattle.error.specs.declared.What.TheVariants.{Strings}
use Rattle.error.specs.declared.LoadErrorKind.{LoadErrorKind}
use Rattle.error.specs.declared.LoadErrorKind.TheVariants.{FallsThrough, ArityMismatch, CalleeHasCaptures, TailCallInTry}
use Rattle.error.specs.declared.LoadErrorKind.TheVariants.{UnresolvedImport, BadSignature, BadParamList}
use Rattle.error.specs.declared.LoadError.{LoadError}
use Rattle.error.specs.Answer.{kind_numbers, in_module, in_function, at_position, unless, in_range, string_number}
use Rattle.sheet.specs.Module.{Param, ParamList, Import, Inst, Func, Module, opcode, slot_a, slot_d, slot_w}
use Rattle.sheet.specs.Decode.{decode}
use Rattle.sheet.proofs.DecodedTheorems.{decoded_edition}
use Rattle.sheet.specs.Editions.{most_of, may_leave_out}
use Rattle.host.specs.Host.{HostFn, resolved}
use Rattle.types.specs.Types.{types_faults}
use Rattle.parents.specs.Parents.{parents_faults}
use Rattle.spans.specs.Spans.{walk_faults}
use Rattle.consts.specs.Consts.{most_deep, consts_faults}
use Rattle.imports.specs.Params.{signature_faults, sig_params, valid_params, fits_one, fits, param_list_faults}
use Rattle.imports.specs.Imports.{host_entry, scheduler_fits, import_faults, imports_faults, globals_faults}
use Rattle.funcs.specs.Funcs.{func_faults, funcs_faults}
use Rattle.code.specs.Callee.{no_func, no_import, func_at, import_at, no_captures}
use Rattle.code.specs.Opcodes.{row}
use Rattle.code.specs.Code.{covers, handler_faults, table_faults, fields_faults, window_faults, arity_faults, direct_faults}
use Rattle.code.specs.Code.{mandatory, most_arguments, fewest_arguments, import_call_faults, rule_faults, inst_faults, placed_faults}
use Rattle.code.specs.Code.{unreachable, terminates, last_position, last_faults, code_faults, codes_faults}
use Rattle.code.proofs.ArityLaws.{arity_few, arity_many, arity_right, arity_cases, fewest_all, fewest_mandatory, fewest_few}
use Rattle.hooks.specs.Hooks.{hook_faults, hooks_faults, start_at_faults, start_faults, export_faults, exports_faults}
use Rattle.load.specs.Load.{module_faults, faults_of, load}
use Rattle.load.specs.Kinds.{kind_number, judged, before_exports, of_range, of_rules, all_unless}
use Rattle.load.specs.CodeKinds.{fields_ranges, window_ranges}
use Rattle.load.proofs.KindLaws.{accepted_rules, refused_rules}
use Rattle.law_faults.specs.Empty.{not_empty, append_empty, map_empty, unless_empty, every, every_from}
use Rattle.law_faults.specs.Empty.{first_after, first_before, map_first, first_from_lem}
use Rattle.calls.specs.ArgumentCalls.{inst_at, HasInst, CallsImport, CallsFunction, callee_params, Mismatch, mismatch_at}
use Rattle.calls.specs.ArgumentCalls.{ArgumentsAnswered, ArgumentsRight}

-- ── the test of a number ──

module _ (least most found : ℕ) where
  arity_kept : arity_faults least most found ≡ [] → (least ≤ found) × (found ≤ most)
  arity_kept h =
      arity_cases least most found
      (λ l. not_empty (sym (arity_few least most found l) ∙ h))
      (λ g l. not_empty (sym (arity_many least most found g l) ∙ h))
      (λ g l. (g, l))

  -- the numbers of a mismatch
  numbers_of : (a x b y : ℕ) (ks ls : List LoadErrorKind) → ArityMismatch a x ∷ ks ≡ ArityMismatch b y ∷ ls → (a ≡ b) × (x ≡ y)
  numbers_of a x b y ks ls e = (cc, cc)

  arity_broken : (expected x : ℕ) (ks : List LoadErrorKind) → arity_faults least most found ≡ ArityMismatch expected x ∷ ks →
      (x ≡ found) × Mismatch least most x expected
  arity_broken expected x ks h =
      arity_cases least most found
      (λ l.
      let e = numbers_of least found expected x _ ks (sym (arity_few least most found l) ∙ h) in
      (sym e.1, record { few = λ _. sym e.0; many = λ g. absurd (omega (arith, e.1)) }))
      (λ g l.
      let e = numbers_of most found expected x _ ks (sym (arity_many least most found g l) ∙ h) in
      (sym e.1, record { few = λ k. absurd (omega (arith, e.1)); many = λ _. (omega (arith, e.1), sym e.0) }))
      (λ g l. not_empty (sym h ∙ arity_right least most found g l))

-- ── what the rule of an instruction asks, where it calls ──

-- a window, the number of arguments, and what has a kind from 9 up
record CallParts (f : Func) (least most n : ℕ) (ks : List LoadErrorKind) : Type 0 where
  first : ℕ
  rest : List LoadErrorKind
  later : all_of (λ k. ltb 8 (kind_number k)) rest ≡ true
  parts : ks ≡ window_faults f first n ++ arity_faults least most n ++ rest

module _ (f : Func) (least most n : ℕ) (ks : List LoadErrorKind) (p : CallParts f least most n ks) where
  parts_kept : ks ≡ [] → (least ≤ n) × (n ≤ most)
  parts_kept h =
      let w = window_faults f p.first n in
      let a = arity_faults least most n in
      let e = ((append_empty (w ++ a) p.rest).0 (sym p.parts ∙ h)).0 in
      arity_kept least most n ((append_empty w a).0 e).1

  parts_broken : (expected x : ℕ) (ls : List LoadErrorKind) → ks ≡ ArityMismatch expected x ∷ ls → (x ≡ n) × Mismatch least most x expected
  unfolding of_range kind_number kind_numbers
  parts_broken expected x ls h =
      let w = window_faults f p.first n in
      let a = arity_faults least most n in
      let k = ArityMismatch expected x in
      first_before (λ k. ltb 8 (kind_number k)) (w ++ a) p.rest k ls refl (sym p.parts ∙ h) p.later λ ys g.
      first_after of_range w a k ys refl g (window_ranges f p.first n) λ q. arity_broken least most n expected x ys q

module _ (m : Module) (f : Func) (covered : Bool) (i : Inst) where
  abbrev own_faults : List LoadErrorKind
  own_faults = rule_faults m f covered i (row (opcode i)).rule

  by_code : (code : ℕ) → opcode i ≡ code → own_faults ≡ rule_faults m f covered i (row code).rule
  by_code code e = ap (λ (n : ℕ). rule_faults m f covered i (row n).rule) e

  import_parts_lem : CallsImport i → let j = import_at m (slot_w i) in CallParts f (fewest_arguments m j) (most_arguments m j) (slot_d i) own_faults
  unfolding rule_faults row import_call_faults
  import_parts_lem e =
      let faults = import_call_faults m f (slot_w i) (slot_a i + 1) (slot_d i) in
      record { first = slot_a i + 1; rest = []; later = refl; parts = by_code 21 e ∙ sym (append-nil faults) }

  captured : List LoadErrorKind
  captured = unless (no_captures (func_at m (slot_w i))) CalleeHasCaptures

  tried : List LoadErrorKind
  tried = unless (not covered) TailCallInTry

  captured_later : all_of (λ k. ltb 8 (kind_number k)) captured ≡ true
  unfolding kind_number kind_numbers captured
  captured_later = all_unless (λ k. ltb 8 (kind_number k)) (no_captures (func_at m (slot_w i))) CalleeHasCaptures refl

  tried_later : all_of (λ k. ltb 8 (kind_number k)) (captured ++ tried) ≡ true
  unfolding kind_number kind_numbers tried
  tried_later =
      let above : LoadErrorKind → Bool = λ k. ltb 8 (kind_number k) in
      all_append above captured tried captured_later (all_unless above (not covered) TailCallInTry refl)

  -- Call and CoroNew
  call_parts : (code : ℕ) → opcode i ≡ code →
      rule_faults m f covered i (row code).rule ≡ direct_faults m f (slot_w i) (slot_a i + 1) (slot_d i) →
      CallParts f (callee_params m i) (callee_params m i) (slot_d i) own_faults
  unfolding direct_faults captured
  call_parts code e q = record { first = slot_a i + 1; rest = captured; later = captured_later; parts = by_code code e ∙ q }

  tail_parts : opcode i ≡ 7 → CallParts f (callee_params m i) (callee_params m i) (slot_d i) own_faults
  unfolding rule_faults row direct_faults captured tried
  tail_parts e =
      let n = slot_d i in
      let front = window_faults f (slot_a i) n ++ arity_faults (callee_params m i) (callee_params m i) n in
      record { first = slot_a i; rest = captured ++ tried; later = tried_later; parts = by_code 7 e ∙ append_assoc front captured tried }

  function_parts_lem : CallsFunction i → CallParts f (callee_params m i) (callee_params m i) (slot_d i) own_faults
  unfolding rule_faults row
  function_parts_lem h = any_found (eqb (opcode i)) 0 (7 ∷ 15 ∷ 20 ∷ []) h go
    where
      go : (k : ℕ) → k < 3 → eqb (opcode i) (get_or (7 ∷ 15 ∷ 20 ∷ []) k 0) ≡ true →
          CallParts f (callee_params m i) (callee_params m i) (slot_d i) own_faults
      go zero l e = tail_parts (eqb-true (opcode i) 7 e)
      go (suc zero) l e = call_parts 15 (eqb-true (opcode i) 15 e) refl
      go (suc (suc zero)) l e = call_parts 20 (eqb-true (opcode i) 20 e) refl
      go (suc (suc (suc k))) l e = absurd (omega arith)

-- ── no instruction is broken ──

abbrev covered_at : Module → ℕ → ℕ → Bool
covered_at m f pc = any_of (covers pc) (func_at m f).handlers

abbrev own_faults_at : Module → ℕ → ℕ → List LoadErrorKind
own_faults_at m f pc = own_faults m (func_at m f) (covered_at m f pc) (inst_at m f pc)

rule_holds : (m : Module) (f pc : ℕ) → HasInst m f pc → codes_faults m ≡ [] → own_faults_at m f pc ≡ []
unfolding codes_faults code_faults placed_faults inst_faults func_at inst_at
rule_holds m f pc s h =
    let g = func_at m f in
    let i = inst_at m f pc in
    let handlers = map (in_function f) (concat_map (handler_faults g) g.handlers) in
    let tables = map (in_function f) (concat_map (table_faults g) g.tables) in
    let insts = concat_map_from 0 (placed_faults m f g) g.code in
    let code = (every_from no_func (code_faults m) m.funcs).0 h f s.function in
    let placed = ((append_empty (last_faults f g ++ handlers ++ tables) insts).0 code).1 in
    let here = (every_from unreachable (placed_faults m f g) g.code).0 placed pc s.position in
    let both = (map_empty (at_position f pc) (inst_faults m g pc i)).0 here in
    ((append_empty (fields_faults m g (row (opcode i)) i) (own_faults_at m f pc)).0 both).1

-- all rules before code
abbrev before_code : ℕ → List HostFn → Module → List LoadError
before_code most hosts m =
    types_faults m ++ parents_faults most m ++ walk_faults most m ++ consts_faults most_deep m ++ imports_faults hosts m ++ globals_faults m
    ++ funcs_faults m

codes_hold : (m : Module) (hs : List HostFn) → faults_of hs m ≡ [] → (before_code (most_of m) hs m ≡ []) × (codes_faults m ≡ [])
unfolding module_faults
codes_hold m hs h =
    let earlier = before_code (most_of m) hs m in
    let codes = earlier ++ codes_faults m in
    let hooks = codes ++ hooks_faults m in
    let start = hooks ++ start_faults m in
    let a = ((append_empty start (exports_faults m)).0 h).0 in
    let b = ((append_empty hooks (start_faults m)).0 a).0 in
    let c = ((append_empty codes (hooks_faults m)).0 b).0 in
    (append_empty earlier (codes_faults m)).0 c

-- ── lists fit their signatures ──

import_holds : (m : Module) (hs : List HostFn) (j : ℕ) → faults_of hs m ≡ [] → j < length m.imports →
    import_faults hs m (import_at m j) ≡ []
unfolding imports_faults import_at
import_holds m hs j h l =
    let before = types_faults m ++ parents_faults (most_of m) m ++ walk_faults (most_of m) m ++ consts_faults most_deep m in
    let imports = before ++ imports_faults hs m in
    let globals = imports ++ globals_faults m in
    let a = ((append_empty globals (funcs_faults m)).0 (codes_hold m hs h).0).0 in
    let b = ((append_empty imports (globals_faults m)).0 a).0 in
    let c = ((append_empty before (imports_faults hs m)).0 b).1 in
    let d = (map_empty in_module (concat_map (import_faults hs m) m.imports)).0 c in
    (every no_import (import_faults hs m) m.imports).0 d j l

list_fits : (m : Module) (hs : List HostFn) (i : Import) (ps : List Param) → import_faults hs m i ≡ [] → i.params ≡ Some ps →
    length ps ≡ most_arguments m i
unfolding import_faults param_list_faults fits
list_fits m hs i ps h e =
    let vs = sig_params m i.sig in
    let sig = signature_faults m i.sig in
    let names = in_range Strings (length m.strings) (max i.module_name i.name) in
    let pair = UnresolvedImport (string_number i.module_name) (string_number i.name) in
    let found = unless (resolved hs (host_entry m hs i)) pair in
    let scheduler = unless (scheduler_fits m hs i) BadSignature in
    let a = ((append_empty (sig ++ names ++ found ++ scheduler) (param_list_faults m i.params vs)).0 h).1 in
    let b = sym (ap (λ (l : ParamList). param_list_faults m l vs) e) ∙ a in
    let c = T_true (valid_params ps && fits m ps vs) ((unless_empty (valid_params ps && fits m ps vs) BadParamList).0 b) in
    let d = and_second (valid_params ps) (fits m ps vs) c in
    eqb-true (length ps) (length vs) (and_first (eqb (length ps) (length vs)) (all_pairs (fits_one m) ps vs) d)

-- ── the first that is broken is the number of arguments of an instruction ──

-- of another kind than 8, or at no position
elsewhere : LoadError → Bool
elsewhere e = not (eqb (kind_number e.kind) 8) || eqb e.pc 0

unplaced : (g : LoadErrorKind → LoadError) → ((k : LoadErrorKind) → (g k).pc ≡ 0) → (ks : List LoadErrorKind) →
    all_of elsewhere (map g ks) ≡ true
unfolding elsewhere
unplaced g h [] = refl
unplaced g h (k ∷ ks) =
    let other = not (eqb (kind_number (g k).kind) 8) in
    both (ap (λ (n : ℕ). other || eqb n 0) (h k) ∙ or-true other) (unplaced g h ks)

before_elsewhere : (most : ℕ) (hosts : List HostFn) (m : Module) → all_of elsewhere (before_code most hosts m) ≡ true
unfolding types_faults parents_faults walk_faults consts_faults imports_faults globals_faults funcs_faults
before_elsewhere most hosts m =
    let record_of : ℕ → Func → List LoadError = λ n f. map (in_function n) (func_faults m f) in
    let in_functions = all_each_from elsewhere record_of (λ n f. unplaced (in_function n) (λ k. refl) (func_faults m f)) in
    simp (all_join, unplaced in_module (λ k. refl), in_functions)

-- the last instruction, handlers, tables
parts_elsewhere : (n : ℕ) (f : Func) → let handlers = map (in_function n) (concat_map (handler_faults f) f.handlers) in
    let tables = map (in_function n) (concat_map (table_faults f) f.tables) in all_of elsewhere (last_faults n f ++ handlers ++ tables) ≡ true
unfolding last_faults elsewhere kind_number kind_numbers
parts_elsewhere n f = simp (all_join, unplaced (in_function n) (λ k. refl), last (terminates (get_or f.code (last_position f) unreachable)))
  where
    last : (b : Bool) → all_of elsewhere (map (at_position n (last_position f)) (unless b FallsThrough)) ≡ true
    last true = refl
    last false = refl

-- an instruction's rule has it first
record CallOrigin (m : Module) (f pc : ℕ) (k : LoadErrorKind) : Type 0 where
  rest : List LoadErrorKind
  fault : own_faults_at m f pc ≡ k ∷ rest

module _ (m : Module) (f pc expected found : ℕ) where
  abbrev kind : LoadErrorKind
  kind = ArityMismatch expected found

  abbrev fault : LoadError
  fault = at_position f pc kind

  here : elsewhere fault ≡ false
  unfolding elsewhere kind_number kind_numbers
  here = ne_eqb (suc pc) 0 (λ z. omega arith)

  -- of an instruction
  inst_origin : (n j : ℕ) (us : List LoadError) → placed_faults m n (func_at m n) j (inst_at m n j) ≡ fault ∷ us → CallOrigin m f pc kind
  unfolding placed_faults inst_faults of_range kind_number kind_numbers
  inst_origin n j us h =
      let g = func_at m n in
      let i = inst_at m n j in
      let fields = fields_faults m g (row (opcode i)) i in
      map_first (at_position n j) (inst_faults m g j i) fault us h λ k ks c e.
      let en : n ≡ f = omega (arith, ap (λ (x : LoadError). x.func) e) in
      let ej : j ≡ pc = omega (arith, ap (λ (x : LoadError). x.pc) e) in
      let ek : k ≡ kind = ap (λ (x : LoadError). x.kind) e in
      let d = c ∙ ap (λ (x : LoadErrorKind). x ∷ ks) ek in
      first_after of_range fields (own_faults_at m n j) kind ks refl d (fields_ranges m g (row (opcode i)) i) λ t.
      subst (λ (x : ℕ). CallOrigin m x pc kind) en (subst (λ (x : ℕ). CallOrigin m n x kind) ej (record { rest = ks; fault = t }))

  -- of a function
  code_origin : (n : ℕ) (zs : List LoadError) → code_faults m n (func_at m n) ≡ fault ∷ zs → CallOrigin m f pc kind
  unfolding code_faults inst_at
  code_origin n zs h =
      let g = func_at m n in
      let handlers = map (in_function n) (concat_map (handler_faults g) g.handlers) in
      let tables = map (in_function n) (concat_map (table_faults g) g.tables) in
      let insts = concat_map_from 0 (placed_faults m n g) g.code in
      first_after elsewhere (last_faults n g ++ handlers ++ tables) insts fault zs here h (parts_elsewhere n g) λ t.
      first_from_lem unreachable 0 (placed_faults m n g) g.code fault zs t λ j q b us d.
      inst_origin n j us (subst (λ (p : ℕ). placed_faults m n g p (inst_at m n j) ≡ fault ∷ us) (omega arith) d)

  -- of all rules
  origin : (most : ℕ) (hosts : List HostFn) (es : List LoadError) → module_faults most hosts m ≡ fault ∷ es → CallOrigin m f pc kind
  unfolding module_faults codes_faults hooks_faults start_faults exports_faults func_at
  origin most hosts es q =
      let earlier = before_code most hosts m in
      let codes = earlier ++ codes_faults m in
      let hooks = codes ++ hooks_faults m in
      let start = hooks ++ start_faults m in
      let of_exports = unplaced in_module (λ k. refl) (concat_map_from 0 (export_faults m) m.exports) in
      let of_start = unplaced in_module (λ k. refl) (start_at_faults m m.start+) in
      let of_hooks = unplaced in_module (λ k. refl) (concat_map (hook_faults m) m.hooks) in
      first_before elsewhere start (exports_faults m) fault es here q of_exports λ ks a.
      first_before elsewhere hooks (start_faults m) fault ks here a of_start λ bs b.
      first_before elsewhere codes (hooks_faults m) fault bs here b of_hooks λ cs c.
      first_after elsewhere earlier (codes_faults m) fault cs here c (before_elsewhere most hosts m) λ d.
      first_from_lem no_func 0 (code_faults m) m.funcs fault cs d λ n l k zs h.
      code_origin n zs (subst (λ (p : ℕ). code_faults m p (get_or m.funcs n no_func) ≡ fault ∷ zs) (omega arith) h)

-- ── of every call ──

module _ (sheet hosts : List ℕ) (table work : ℕ) (m : Module) (d : decode sheet ≡ Some m) where
  holds : (l f pc : ℕ) → load sheet hosts table work ≡ Ok l → HasInst m f pc → own_faults_at m f pc ≡ []
  holds l f pc q s = accepted_rules sheet hosts table work m d l q λ hs h. rule_holds m f pc s (codes_hold m hs h).1

  mismatched : (f pc expected found : ℕ) → load sheet hosts table work ≡ mismatch_at f pc expected found →
      CallOrigin m f pc (ArityMismatch expected found)
  unfolding of_rules before_exports judged kind_number kind_numbers
  mismatched f pc expected found q =
      refused_rules sheet hosts table work m d (at_position f pc (ArityMismatch expected found)) refl q λ hs es h.
      origin m f pc expected found (most_of m) hs es h

  import_parts : (f pc : ℕ) → let i = inst_at m f pc in CallsImport i → let j = import_at m (slot_w i) in
      CallParts (func_at m f) (fewest_arguments m j) (most_arguments m j) (slot_d i) (own_faults_at m f pc)
  import_parts f pc = import_parts_lem m (func_at m f) (covered_at m f pc) (inst_at m f pc)

  function_parts : (f pc : ℕ) → let i = inst_at m f pc in CallsFunction i →
      CallParts (func_at m f) (callee_params m i) (callee_params m i) (slot_d i) (own_faults_at m f pc)
  function_parts f pc = function_parts_lem m (func_at m f) (covered_at m f pc) (inst_at m f pc)

  answered : ArgumentsAnswered sheet m (load sheet hosts table work)
  unfolding mandatory may_leave_out
  answered = record {
    imports = λ l f pc q s c. parts_kept _ _ _ _ _ (import_parts f pc c) (holds l f pc q s);
    functions = λ l f pc q s c.
        let k = parts_kept _ _ _ _ _ (function_parts f pc c) (holds l f pc q s) in
        omega (arith, k.0, k.1);
    import_mismatch = λ f pc expected found q c.
        let o = mismatched f pc expected found q in
        parts_broken _ _ _ _ _ (import_parts f pc c) expected found o.rest o.fault;
    function_mismatch = λ f pc expected found q c.
        let o = mismatched f pc expected found q in
        let p = callee_params m (inst_at m f pc) in
        let b = parts_broken _ _ _ _ _ (function_parts f pc c) expected found o.rest o.fault in
        let e = exact p found expected b.1 in
        (b.0, e.0, e.1);
    listed = λ i ps e l.
        fewest_mandatory m i (eq-eqb m.edition 2 ((decoded_edition sheet m d).0 ∙ e))
        ∙ ap (λ (k : ParamList). mandatory k (most_arguments m i)) l;
    in_order = λ l j q k.
        accepted_rules sheet hosts table work m d l q λ hs h.
        fewest_few m (import_at m j) (λ ps e. list_fits m hs (import_at m j) ps (import_holds m hs j h k) e);
    unlisted = λ i l. all_given i l (may_leave_out m.edition) refl;
    unread = λ i e. fewest_all m i (ne_eqb m.edition 2 (λ z. omega (arith, (decoded_edition sheet m d).0 ∙ e)));
  }
    where
      exact : (params found expected : ℕ) → Mismatch params params found expected → (expected ≡ params) × (found ≡ expected → ⊥)
      exact params found expected x = go (dec_lt found params)
        where
          go : Dec (found < params) → (expected ≡ params) × (found ≡ expected → ⊥)
          go (yes l) = (x.few l, λ e. omega (arith, x.few l))
          go (no l) = let y = x.many (omega arith) in (y.1, λ e. omega (arith, y.0, y.1))

      all_given : (i : Import) → i.params ≡ None → (b : Bool) → may_leave_out m.edition ≡ b → fewest_arguments m i ≡ most_arguments m i
      all_given i l true e = fewest_mandatory m i e ∙ ap (λ (k : ParamList). mandatory k (most_arguments m i)) l
      all_given i l false e = fewest_all m i e

pub arguments_right : ArgumentsRight
unfolding ArgumentsRight
arguments_right sheet hosts table work r left work_left m d c =
    subst (ArgumentsAnswered sheet m) (sym c.answers) (answered sheet hosts (length table) (length work) m d)
