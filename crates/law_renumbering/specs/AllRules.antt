-- All rules under a renumbering: a module keeps them just where its renumbering does.
use Rattle.std.specs.Prelude.{◌≡◌, List, [], ◌++◌, ℕ, ◌≤◌, length}
use Rattle.law_faults.specs.Empty.{append_empty}
use Rattle.law_faults.specs.Together.{Together, ◌⊕◌, both_empty, together_then}
use Rattle.sheet.specs.Module.{Module}
use Rattle.host.specs.Host.{HostFn}
use Rattle.types.specs.Types.{types_faults}
use Rattle.parents.specs.Parents.{parents_faults}
use Rattle.spans.specs.Spans.{walk_faults}
use Rattle.consts.specs.Consts.{most_deep, consts_faults}
use Rattle.imports.specs.Imports.{imports_faults, globals_faults}
use Rattle.funcs.specs.Funcs.{funcs_faults}
use Rattle.code.specs.Code.{codes_faults}
use Rattle.hooks.specs.Hooks.{hooks_faults, start_faults, exports_faults}
use Rattle.load.specs.Load.{module_faults}
use Rattle.law_forest.proofs.AcceptedLaws.{walk_complete}
use Rattle.sheet.specs.DecodedLaws.{Coded}
use Rattle.renumber.specs.Renumber.{renumber}
use Rattle.law_renumbering.specs.Bijection.{Listed}
use Rattle.law_renumbering.specs.TypeRules.{types_together, parents_together}
use Rattle.law_renumbering.specs.ImportRules.{consts_together, imports_together, globals_together}
use Rattle.law_renumbering.specs.FuncRules.{funcs_together}
use Rattle.law_renumbering.specs.CodeRules.{codes_together}
use Rattle.law_renumbering.specs.HookRules.{hooks_together, start_together, exports_together}

module _ (most : ℕ) (one : 1 ≤ most) (r : List ℕ) (m : Module) (l : Listed (length m.types) r) (good : Coded m) where
  front_together : Together (types_faults m ++ parents_faults most m ++ walk_faults most m)
      (types_faults (renumber r m) ++ parents_faults most (renumber r m) ++ walk_faults most (renumber r m))
  front_together = together_then (types_together r m l ⊕ parents_together most r m l good) (λ e.
      let k = ((append_empty (types_faults m) (parents_faults most m)).0 e).1 in
      both_empty (walk_complete most one m k) (walk_complete most one (renumber r m) ((parents_together most r m l good).there k)))

  pub rules_together : (hosts : List HostFn) → Together (module_faults most hosts m) (module_faults most hosts (renumber r m))
  unfolding module_faults
  rules_together hosts =
      front_together
      ⊕ consts_together most_deep r m
      ⊕ imports_together r m l good hosts
      ⊕ globals_together r m l
      ⊕ funcs_together r m l good
      ⊕ codes_together r m l
      ⊕ hooks_together r m l
      ⊕ start_together r m l
      ⊕ exports_together r m l

-- a module that keeps all rules keeps rule 3
pub parents_kept : (most : ℕ) (hosts : List HostFn) (m : Module) → module_faults most hosts m ≡ [] → parents_faults most m ≡ []
unfolding module_faults
parents_kept most hosts m e =
    let a = types_faults m ++ parents_faults most m in
    let b = a ++ walk_faults most m in
    let c = b ++ consts_faults most_deep m in
    let d = c ++ imports_faults hosts m in
    let f = d ++ globals_faults m in
    let g = f ++ funcs_faults m in
    let h = g ++ codes_faults m in
    let i = h ++ hooks_faults m in
    let j = i ++ start_faults m in
    let j₁ = ((append_empty j (exports_faults m)).0 e).0 in
    let i₁ = ((append_empty i (start_faults m)).0 j₁).0 in
    let h₁ = ((append_empty h (hooks_faults m)).0 i₁).0 in
    let g₁ = ((append_empty g (codes_faults m)).0 h₁).0 in
    let f₁ = ((append_empty f (funcs_faults m)).0 g₁).0 in
    let d₁ = ((append_empty d (globals_faults m)).0 f₁).0 in
    let c₁ = ((append_empty c (imports_faults hosts m)).0 d₁).0 in
    let b₁ = ((append_empty b (consts_faults most_deep m)).0 c₁).0 in
    let a₁ = ((append_empty a (walk_faults most m)).0 b₁).0 in
    ((append_empty (types_faults m) (parents_faults most m)).0 a₁).1
