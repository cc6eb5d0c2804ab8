-- The signature's parameters beside the registers and the parameter list.
use Prim.Native.Nat.{ℕ}
use mathlib.Core.Path.{◌≡◌, sym, ap, ap₂, ◌∙◌}
use mathlib.Core.List.{List, [], ◌++◌}
use mathlib.Core.Bool.{Bool, true, false}
use Rattle.std.specs.Prelude.{None, Err}
use native.Mathlib.Omega.{arith}
use lib.Dec.{leb}
use lib.ListN.{length}
use Rattle.lists.specs.Lists.{concat_map}
use Rattle.error.specs.declared.LoadErrorKind.TheVariants.{BadSignature, ParamMismatch}
use Rattle.error.specs.Verdict.{Verdict, verdict_of}
use Rattle.error.specs.Answer.{in_module, unless}
use Rattle.law_faults.specs.Empty.{append_empty, map_empty, every}
use Rattle.reader.specs.Reader.{list_of}
use Rattle.reader.specs.Value.{value_of}
use Rattle.reader.specs.ValueLaws.{value_got}
use Rattle.sheet.specs.Module.{TypeDef, func, struct, cell, iter, coroutine, Module, type_at, kind_word, is_func, sig_of}
use Rattle.sheet.specs.Decode.{value_type, param_list}
use Rattle.open_layout.specs.Opened.{module_in}
use Rattle.types.specs.Types.{value_faults, sig_faults, type_faults, types_faults}
use Rattle.imports.specs.Params.{sig_params, param_list_faults}
use Rattle.funcs.specs.Funcs.{params_first}
use Rattle.law_judging.specs.Judging.{list_faults}
use Rattle.rule_signatures.specs.Signature.{HasSig}
use Rattle.rule_frames.specs.declared.Frame.{Frame}
use Rattle.rule_frames.specs.Frames.{func_of, Framed}
use Rattle.rule6_records.specs.Records.{registers_faults, params_faults}
use Rattle.rule6_records.proofs.RecordSteps.{regs_faults}

-- ── what is known of the value types that are compared ──

-- a func type in which nothing is broken has good parameters
sig_good : (m : Module) (d : TypeDef) → is_func d ≡ true → type_faults m d ≡ [] → concat_map (value_faults m) (sig_of d).params ≡ []
unfolding is_func kind_word sig_of type_faults sig_faults
sig_good m (func s) e h =
    ((append_empty (unless (leb (length s.results) 1) BadSignature) (concat_map (value_faults m) s.params)).0
    ((append_empty (unless (leb (length s.results) 1) BadSignature ++ concat_map (value_faults m) s.params)
    (concat_map (value_faults m) s.results)).0 h).0).1
sig_good m (struct s) e h = let z : ◌≡◌ {A = ℕ} 0 1 = cc in absurd (omega arith)
sig_good m (TypeDef.array v) e h = let z : ◌≡◌ {A = ℕ} 0 1 = cc in absurd (omega arith)
sig_good m (TypeDef.map k v) e h = let z : ◌≡◌ {A = ℕ} 0 1 = cc in absurd (omega arith)
sig_good m (cell v) e h = let z : ◌≡◌ {A = ℕ} 0 1 = cc in absurd (omega arith)
sig_good m (iter k v) e h = let z : ◌≡◌ {A = ℕ} 0 1 = cc in absurd (omega arith)
sig_good m coroutine e h = let z : ◌≡◌ {A = ℕ} 0 1 = cc in absurd (omega arith)

-- where the types hold, so do the parameters of every signature
pub params_hold : (m : Module) (t : ℕ) → types_faults m ≡ [] → HasSig m t → concat_map (value_faults m) (sig_params m t) ≡ []
unfolding types_faults type_at sig_params
params_hold m t e h =
    sig_good m (type_at m.types t) h.func
    ((every coroutine (type_faults m) m.types).0 ((map_empty in_module (concat_map (type_faults m) m.types)).0 e) t h.inside)

pub params_good : (m : Module) (t : ℕ) (ws : List ℕ) (p : ℕ) → types_faults m ≡ [] → HasSig m t
    → value_of [] (list_of value_type ws p) ≡ sig_params m t → list_faults (value_faults m) (list_of value_type ws p) ≡ []
unfolding list_faults
params_good m t ws p e h k = ap (concat_map (value_faults m)) k ∙ params_hold m t e h

pub regs_good : (ws : List ℕ) (c : Frame) → Framed ws c → registers_faults (module_in ws) (func_of ws c) ≡ []
    → list_faults (value_faults (module_in ws)) (list_of value_type ws c.body.regs) ≡ []
unfolding registers_faults
regs_good ws c x e = regs_faults ws c x ∙ ((append_empty (concat_map (value_faults (module_in ws)) (func_of ws c).regs) _).0 e).0

-- ── first registers, then parameter list ──

module _ (ws : List ℕ) (c : Frame) (x : Framed ws c) (p : ℕ) {u : Bool}
    (k : value_of [] (list_of value_type ws p) ≡ sig_params (module_in ws) c.body.sig.0)
    (g : u ≡ params_first (module_in ws) (value_of [] (list_of value_type ws p)) (value_of [] (list_of value_type ws c.body.regs))) where
  taken : value_of [] (list_of value_type ws p) ≡ sig_params (module_in ws) (func_of ws c).sig
  taken = k ∙ ap (sig_params (module_in ws)) x.placed.sig

  both : (t : Bool) → u ≡ t
      → verdict_of
      (unless t ParamMismatch ++ param_list_faults (module_in ws) (func_of ws c).params (sig_params (module_in ws) (func_of ws c).sig))
      ≡ verdict_of (params_faults (module_in ws) (func_of ws c))
  unfolding params_faults
  both t z =
      ap (λ b. verdict_of
      (unless b ParamMismatch
      ++ param_list_faults (module_in ws) (func_of ws c).params (sig_params (module_in ws) (func_of ws c).sig)))
      (sym z ∙ g ∙ ap₂ (params_first (module_in ws)) taken (value_got [] x.placed.regs))

  pub params_broken : u ≡ false → Err ParamMismatch ≡ verdict_of (params_faults (module_in ws) (func_of ws c))
  unfolding verdict_of
  params_broken z = both false z

  pub params_then : {r : Verdict} → u ≡ true
      → r ≡ verdict_of
      (param_list_faults (module_in ws) (value_of None (param_list ws c.body.params)) (value_of [] (list_of value_type ws p)))
      → r ≡ verdict_of (params_faults (module_in ws) (func_of ws c))
  params_then z h = h ∙ ap₂ (λ l vs. verdict_of (param_list_faults (module_in ws) l vs)) (value_got None x.placed.params) taken
      ∙ both true z
