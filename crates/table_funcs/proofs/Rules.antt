-- What the rules say of a function and of the types, part by part.
use Prim.Native.Nat.{ℕ, ◌≤◌}
use mathlib.Core.Path.{◌≡◌, refl, sym, ap}
use mathlib.Core.List.{List, [], ◌++◌}
use mathlib.Core.Bool.{true}
use native.Mathlib.Omega.{arith}
use lib.Dec.{leb, leb→le}
use lib.ListN.{length}
use Rattle.lists.specs.Lists.{concat_map}
use Rattle.error.specs.declared.What.TheVariants.{Types, Registers}
use Rattle.error.specs.declared.LoadErrorKind.TheVariants.{BadSignature, OutOfRange, ParamMismatch}
use Rattle.std.specs.Prelude.{Ok}
use Rattle.error.specs.Answer.{in_module, unless, in_range}
use Rattle.error.specs.Verdict.{verdict_of}
use Rattle.law_faults.specs.Empty.{append_empty, map_empty, unless_empty, every}
use Rattle.sheet.specs.Module.{TypeDef, func, struct, cell, iter, coroutine, Func, Module, type_at, kind_word, is_func, sig_of}
use Rattle.types.specs.Types.{value_faults, string_faults, sig_faults, type_faults, types_faults}
use Rattle.imports.specs.Params.{signature_faults, sig_params, sig_results, param_list_faults}
use Rattle.funcs.specs.Shapes.{shape_faults}
use Rattle.funcs.specs.Funcs.{most_registers, params_first, type_ref_faults, func_faults}
use Rattle.rule_signatures.specs.Signature.{HasSig}
use Rattle.rule_signatures.specs.SignatureLaws.{checked_sig}

-- ── functions ──

-- of nine lists that are empty together, those that are asked for
nine : {A C : Type 0} (a b c d e f g h i : List A) → a ++ b ++ c ++ d ++ e ++ f ++ g ++ h ++ i ≡ [] → (a ≡ [] → b ≡ [] → c ≡ [] → g ≡ [] → h ≡ [] → i ≡ [] → C) → C
nine a b c d e f g h i z k =
    let z₈ = (append_empty (a ++ b ++ c ++ d ++ e ++ f ++ g ++ h) i).0 z in
    let z₇ = (append_empty (a ++ b ++ c ++ d ++ e ++ f ++ g) h).0 z₈.0 in
    let z₆ = (append_empty (a ++ b ++ c ++ d ++ e ++ f) g).0 z₇.0 in
    let z₅ = (append_empty (a ++ b ++ c ++ d ++ e) f).0 z₆.0 in
    let z₄ = (append_empty (a ++ b ++ c ++ d) e).0 z₅.0 in
    let z₃ = (append_empty (a ++ b ++ c) d).0 z₄.0 in
    let z₂ = (append_empty (a ++ b) c).0 z₃.0 in
    let z₁ = (append_empty a b).0 z₂.0 in
    k z₁.0 z₁.1 z₂.1 z₆.1 z₇.1 z₈.1

-- what a function that breaks no rule has
pub record Clean (m : Module) (f : Func) : Type 0 where
  pub sig : HasSig m f.sig
  pub regs : concat_map (value_faults m) f.regs ≡ []
  pub few : length f.regs ≤ 65536
  pub captures : concat_map (value_faults m) f.captures ≡ []
  pub names : concat_map (string_faults m) f.names ≡ []
  pub type_refs : concat_map (in_range Types (length m.types)) f.type_refs ≡ []

signed : (m : Module) (t : ℕ) → signature_faults m t ≡ [] → HasSig m t
unfolding verdict_of
signed m t e = checked_sig m t {r = (Ok tt)} refl (ap verdict_of (sym e))

pub clean : (m : Module) (f : Func) → func_faults m f ≡ [] → Clean m f
unfolding func_faults type_ref_faults
clean m f e =
    nine
    (signature_faults m f.sig)
    (concat_map (value_faults m) f.regs)
    (unless (leb (length f.regs) most_registers) (OutOfRange Registers (length f.regs)))
    (unless (params_first m (sig_params m f.sig) f.regs) ParamMismatch)
    (param_list_faults m f.params (sig_params m f.sig))
    (concat_map (shape_faults m) f.shapes)
    (concat_map (value_faults m) f.captures)
    (concat_map (string_faults m) f.names)
    (concat_map (type_ref_faults m) f.type_refs)
    e λ a b c g h i.
    record {
      sig = signed m f.sig a;
      regs = b;
      few = leb→le (length f.regs) most_registers ((unless_empty (leb (length f.regs) most_registers) (OutOfRange Registers (length f.regs))).0 c);
      captures = g;
      names = h;
      type_refs = i;
    }

-- ── results ──

-- a func type in which nothing is broken has good results
sig_good : (m : Module) (d : TypeDef) → is_func d ≡ true → type_faults m d ≡ [] → concat_map (value_faults m) (sig_of d).results ≡ []
unfolding is_func kind_word sig_of type_faults sig_faults
sig_good m (func s) e h =
    ((append_empty (unless (leb (length s.results) 1) BadSignature ++ concat_map (value_faults m) s.params) (concat_map (value_faults m) s.results)).0 h).1
sig_good m (struct s) e h = let z : ◌≡◌ {A = ℕ} 0 1 = cc in absurd (omega arith)
sig_good m (TypeDef.array v) e h = let z : ◌≡◌ {A = ℕ} 0 1 = cc in absurd (omega arith)
sig_good m (TypeDef.map k v) e h = let z : ◌≡◌ {A = ℕ} 0 1 = cc in absurd (omega arith)
sig_good m (cell v) e h = let z : ◌≡◌ {A = ℕ} 0 1 = cc in absurd (omega arith)
sig_good m (iter k v) e h = let z : ◌≡◌ {A = ℕ} 0 1 = cc in absurd (omega arith)
sig_good m coroutine e h = let z : ◌≡◌ {A = ℕ} 0 1 = cc in absurd (omega arith)

-- where the types hold, so do the results of every signature
pub results_hold : (m : Module) (t : ℕ) → types_faults m ≡ [] → HasSig m t → concat_map (value_faults m) (sig_results m t) ≡ []
unfolding types_faults type_at sig_results
results_hold m t e h =
    sig_good m (type_at m.types t) h.func
    ((every coroutine (type_faults m) m.types).0 ((map_empty in_module (concat_map (type_faults m) m.types)).0 e) t h.inside)
