-- The rules give the kinds 2 to 22 and 26 to 28 only.
use Rattle.std.specs.Prelude.{ℕ, zero, suc, ◌≡◌, List, [], ◌∷◌, ◌++◌, Bool, true, false, cond, ◌||◌, eqb, length, get_or, None, Some}
use Rattle.std.proofs.Math.Path.{refl}
use Rattle.std.proofs.Common.{ap, ◌∙◌}
use Rattle.std.proofs.Math.Bool.{or-true}
use Rattle.lists.specs.Lists.{all_of, concat_map_from}
use Rattle.lists.specs.ListLaws.{all_imp, all_append}
use Rattle.lists.specs.AllLaws.{all_join, all_map, all_each_from}
use Rattle.error.specs.declared.What.TheVariants.{Types, Functions, Globals}
use Rattle.error.specs.declared.LoadError.{LoadError}
use Rattle.error.specs.Answer.{kind_numbers, in_module, in_range}
use Rattle.sheet.specs.Module.{ValueType, basic, ref, Struct, Sig, TypeDef, func, struct, cell, iter, coroutine, Const, plain, ParamList}
use Rattle.sheet.specs.Module.{Import, Func, Hook, Export, Module}
use Rattle.sheet.specs.Editions.{reads_export_names}
use Rattle.host.specs.Host.{HostFn}
use Rattle.types.specs.Types.{value_faults, string_faults, function_faults, method_faults, struct_faults, sig_faults, type_faults, types_faults}
use Rattle.parents.specs.Forest.{Entry, other, root, sub}
use Rattle.parents.specs.Parents.{child_faults, parent_faults, parents_faults}
use Rattle.spans.specs.Spans.{order, missed_faults, walk_faults}
use Rattle.consts.specs.Consts.{most_deep, string_const_faults, const_faults, consts_faults}
use Rattle.imports.specs.Params.{signature_faults, param_list_faults}
use Rattle.imports.specs.Imports.{import_faults, imports_faults, init_faults, global_faults, globals_faults}
use Rattle.funcs.specs.Shapes.{shape_faults}
use Rattle.funcs.specs.Funcs.{type_ref_faults, func_faults, funcs_faults}
use Rattle.code.specs.Code.{codes_faults}
use Rattle.hooks.specs.Hooks.{hook_function_faults, hook_import_faults, hook_faults, hooks_faults, start_at_faults, start_faults, index_faults}
use Rattle.hooks.specs.Hooks.{name_faults, export_faults, exports_faults}
use Rattle.load.specs.Load.{module_faults}
use Rattle.load.specs.Kinds.{kind_number, judged, before_exports, of_names, of_exports, of_rules, judged_before, parts}
use Rattle.load.specs.CodeKinds.{codes_kinds}

-- each law, named for its definition: the faults of one rule, or of one part of it, are of kinds 2 to 22

-- ── rule 2: types ──

value_kinds : (m : Module) (v : ValueType) → all_of judged (value_faults m v) ≡ true
unfolding value_faults judged kind_number kind_numbers
value_kinds m (basic k) = refl
value_kinds m (ref t) = simp parts

string_kinds : (m : Module) (s : ℕ) → all_of judged (string_faults m s) ≡ true
unfolding string_faults judged kind_number kind_numbers
string_kinds m s = simp parts

struct_kinds : (m : Module) (s : Struct) → all_of judged (struct_faults m s) ≡ true
unfolding struct_faults method_faults function_faults judged kind_number kind_numbers
struct_kinds m s = simp (parts, value_kinds, string_kinds)

sig_kinds : (m : Module) (s : Sig) → all_of judged (sig_faults m s) ≡ true
unfolding sig_faults judged kind_number kind_numbers
sig_kinds m s = simp (parts, value_kinds)

type_kinds : (m : Module) (d : TypeDef) → all_of judged (type_faults m d) ≡ true
unfolding type_faults
type_kinds m (func s) = sig_kinds m s
type_kinds m (struct s) = struct_kinds m s
type_kinds m (TypeDef.array v) = value_kinds m v
type_kinds m (TypeDef.map k v) = simp (parts, value_kinds)
type_kinds m (cell v) = value_kinds m v
type_kinds m (iter k v) = simp (parts, value_kinds)
type_kinds m coroutine = refl

pub types_kinds : (m : Module) → all_of (λ e. judged e.kind) (types_faults m) ≡ true
unfolding types_faults
types_kinds m = simp (parts, type_kinds)

-- ── rules 3 and 4: parents, constants ──

parent_kinds : (most : ℕ) (types : List TypeDef) (t : ℕ) (e : Entry) → all_of judged (parent_faults most types t e) ≡ true
unfolding parent_faults child_faults judged kind_number kind_numbers
parent_kinds most types t other = refl
parent_kinds most types t root = refl
parent_kinds most types t (sub p) = simp parts

pub parents_kinds : (most : ℕ) (m : Module) → all_of (λ e. judged e.kind) (parents_faults most m) ≡ true
unfolding parents_faults
parents_kinds most m = simp (parts, parent_kinds)

const_kinds : (most : ℕ) (m : Module) (ds : List ℕ) (i : ℕ) (k : Const) → all_of judged (const_faults most m ds i k) ≡ true
unfolding const_faults judged kind_number kind_numbers
const_kinds most m ds i k = simp (parts, string k)
  where
    string : (k : Const) → all_of judged (string_const_faults m k) ≡ true
    string (plain l h) = unfold string_const_faults in refl
    string (Const.string s) = unfold string_const_faults in simp parts
    string (Const.array items) = unfold string_const_faults in refl
    string (Const.map entries) = unfold string_const_faults in refl

pub consts_kinds : (most : ℕ) (m : Module) → all_of (λ e. judged e.kind) (consts_faults most m) ≡ true
unfolding consts_faults
consts_kinds most m = simp (parts, const_kinds)

-- ── rule 5: imports and globals ──

signature_kinds : (m : Module) (t : ℕ) → all_of judged (signature_faults m t) ≡ true
unfolding signature_faults judged kind_number kind_numbers
signature_kinds m t = simp parts

params_kinds : (m : Module) (ps : ParamList) (vs : List ValueType) → all_of judged (param_list_faults m ps vs) ≡ true
unfolding param_list_faults judged kind_number kind_numbers
params_kinds m None vs = refl
params_kinds m (Some ps) vs = simp parts

import_kinds : (hosts : List HostFn) (m : Module) (i : Import) → all_of judged (import_faults hosts m i) ≡ true
unfolding import_faults judged kind_number kind_numbers
import_kinds hosts m i = simp (parts, signature_kinds, params_kinds)

pub imports_kinds : (hosts : List HostFn) (m : Module) → all_of (λ e. judged e.kind) (imports_faults hosts m) ≡ true
unfolding imports_faults
imports_kinds hosts m = simp (parts, import_kinds)

init_kinds : (m : Module) (k : ℕ) → all_of judged (init_faults m k) ≡ true
unfolding init_faults judged kind_number kind_numbers
init_kinds m zero = refl
init_kinds m (suc k) = simp parts

pub globals_kinds : (m : Module) → all_of (λ e. judged e.kind) (globals_faults m) ≡ true
unfolding globals_faults global_faults
globals_kinds m = simp (parts, value_kinds, init_kinds)

-- ── rule 6: functions ──

func_kinds : (m : Module) (f : Func) → all_of judged (func_faults m f) ≡ true
unfolding func_faults shape_faults type_ref_faults judged kind_number kind_numbers
func_kinds m f = simp (parts, signature_kinds, value_kinds, params_kinds, string_kinds)

pub funcs_kinds : (m : Module) → all_of (λ e. judged e.kind) (funcs_faults m) ≡ true
unfolding funcs_faults
funcs_kinds m = simp (parts, func_kinds)

-- ── rule 8: hooks, start, exports ──

hook_kinds : (m : Module) (b : Hook) → all_of judged (hook_faults m b) ≡ true
unfolding hook_faults hook_function_faults hook_import_faults judged kind_number kind_numbers
hook_kinds m b = go (eqb b.kind 0)
  where
    go : (c : Bool) → all_of judged (cond c (hook_function_faults m b.hook b.index) (hook_import_faults m b.hook b.index)) ≡ true
    go true = simp parts
    go false = simp parts

pub hooks_kinds : (m : Module) → all_of (λ e. judged e.kind) (hooks_faults m) ≡ true
unfolding hooks_faults
hooks_kinds m = simp (parts, hook_kinds)

start_at_kinds : (m : Module) (f : ℕ) → all_of judged (start_at_faults m f) ≡ true
unfolding start_at_faults judged kind_number kind_numbers
start_at_kinds m zero = refl
start_at_kinds m (suc f) = simp parts

pub start_kinds : (m : Module) → all_of (λ e. judged e.kind) (start_faults m) ≡ true
unfolding start_faults
start_kinds m = simp (parts, start_at_kinds)

pub index_kinds : (m : Module) (e : Export) → all_of judged (index_faults m e) ≡ true
unfolding index_faults judged kind_number kind_numbers
index_kinds m e = go e.kind
  where
    go : (k : ℕ) → all_of judged (get_or (in_range Functions (length m.funcs) e.index ∷ in_range Globals (length m.globals) e.index ∷ in_range Types (length m.types) e.index ∷ []) k []) ≡ true
    go zero = simp parts
    go (suc zero) = simp parts
    go (suc (suc zero)) = simp parts
    go (suc (suc (suc k))) = refl

name_kinds : (m : Module) (i : ℕ) (e : Export) → all_of of_names (name_faults m i e) ≡ true
unfolding name_faults of_names kind_number kind_numbers
name_kinds m i e = simp parts

export_kinds : (m : Module) (i : ℕ) (e : Export) → all_of of_exports (export_faults m i e) ≡ true
unfolding export_faults of_exports
export_kinds m i e =
    all_append of_exports (index_faults m e) (cond (reads_export_names m.edition) (name_faults m i e) [])
    (all_imp judged of_exports (λ k h. rw h) (index_faults m e) (index_kinds m e)) (go (reads_export_names m.edition))
  where
    go : (b : Bool) → all_of of_exports (cond b (name_faults m i e) []) ≡ true
    go true = all_imp of_names of_exports (λ k h. ap (λ (c : Bool). judged k || c) h
        ∙ or-true (judged k)) (name_faults m i e) (name_kinds m i e)
    go false = refl

pub exports_kinds : (m : Module) → all_of (λ e. of_exports e.kind) (exports_faults m) ≡ true
unfolding exports_faults
exports_kinds m =
    all_map (λ e. of_exports e.kind) of_exports in_module (λ k. refl) (concat_map_from 0 (export_faults m) m.exports)
    ∙ all_each_from of_exports (export_faults m) (export_kinds m) 0 m.exports

-- ── all rules ──

-- the walk gives 26 only
pub walk_kinds : (most : ℕ) (m : Module) → all_of (λ e. before_exports e.kind) (walk_faults most m) ≡ true
unfolding walk_faults missed_faults before_exports judged kind_number kind_numbers
walk_kinds most m =
    let missed = concat_map_from 0 (missed_faults (order most m.types)) m.types in
    all_map (λ e. before_exports e.kind) before_exports in_module (λ k. refl) missed ∙ simp parts

-- 2 to 22 are among the kinds before exports
all_before : (es : List LoadError) → all_of (λ e. judged e.kind) es ≡ true → all_of (λ e. before_exports e.kind) es ≡ true
all_before es h = all_imp (λ e. judged e.kind) (λ e. before_exports e.kind) (λ e k. judged_before e.kind k) es h

-- all rules before exports
abbrev pub earlier_faults : ℕ → List HostFn → Module → List LoadError
earlier_faults most hosts m =
    types_faults m ++ parents_faults most m ++ walk_faults most m ++ consts_faults most_deep m ++ imports_faults hosts m ++ globals_faults m
    ++ funcs_faults m ++ codes_faults m ++ hooks_faults m ++ start_faults m

pub earlier_kinds : (most : ℕ) (hosts : List HostFn) (m : Module) → all_of (λ e. before_exports e.kind) (earlier_faults most hosts m) ≡ true
earlier_kinds most hosts m =
    simp (
      all_join,
      walk_kinds,
      all_before,
      types_kinds,
      parents_kinds,
      consts_kinds,
      imports_kinds,
      globals_kinds,
      funcs_kinds,
      codes_kinds,
      hooks_kinds,
      start_kinds,
    )

-- every fault that the rules find is of one of their kinds
pub rules_kinds : (most : ℕ) (hosts : List HostFn) (m : Module) → all_of (λ e. of_rules e.kind) (module_faults most hosts m) ≡ true
unfolding module_faults of_rules of_exports before_exports
rules_kinds most hosts m =
    let earlier = earlier_faults most hosts m in
    let exports = exports_faults m in
    let walked : LoadError → Bool = λ e. eqb (kind_number e.kind) 26 in
    all_append (λ e. of_rules e.kind) earlier exports
    (all_imp (λ e. before_exports e.kind) (λ e. of_rules e.kind) (λ e k. ap (λ (b : Bool). b || of_names e.kind) k) earlier
    (earlier_kinds most hosts m))
    (all_imp (λ e. of_exports e.kind) (λ e. of_rules e.kind) (λ e k. inside (judged e.kind) (of_names e.kind) (walked e) k) exports
    (exports_kinds m))
  where
    inside : (a b c : Bool) → (a || b) ≡ true → (a || c || b) ≡ true
    inside true b c h = refl
    inside false b true h = refl
    inside false b false h = h
