-- Kind 26 is never given: after the parent rules the walk misses no struct.
use Rattle.std.specs.Prelude.{◌≡◌, refl, Bool, true, false, ◌||◌, List, [], ◌∷◌, ◌++◌, ℕ, ◌≤◌, length, Err}
use Rattle.std.proofs.Common.{ap, arith}
use Rattle.lists.specs.Lists.{all_of}
use Rattle.table.specs.Table.{table_of}
use Rattle.law_faults.specs.Empty.{append_empty}
use Rattle.error.specs.declared.LoadErrorKind.{LoadErrorKind}
use Rattle.error.specs.declared.LoadErrorKind.TheVariants.{MissedStruct}
use Rattle.error.specs.declared.LoadError.{LoadError}
use Rattle.error.specs.Answer.{kind_numbers, first}
use Rattle.sheet.specs.Module.{Module}
use Rattle.host.specs.Host.{HostFn}
use Rattle.types.specs.Types.{types_faults}
use Rattle.sheet.specs.Editions.{most_of}
use Rattle.parents.specs.Parents.{parents_faults}
use Rattle.sheet.proofs.EditionLaws.{most_from_one}
use Rattle.spans.specs.Spans.{walk_faults}
use Rattle.consts.specs.Consts.{most_deep, consts_faults}
use Rattle.imports.specs.Imports.{imports_faults, globals_faults}
use Rattle.funcs.specs.Funcs.{funcs_faults}
use Rattle.code.specs.Code.{codes_faults}
use Rattle.hooks.specs.Hooks.{hooks_faults, start_faults, exports_faults}
use Rattle.load.specs.Load.{module_faults, answer, load}
use Rattle.load.specs.Kinds.{kind_number, judged, of_names, of_exports}
use Rattle.load.specs.CodeKinds.{codes_kinds}
use Rattle.load.proofs.RuleKinds.{types_kinds, parents_kinds, consts_kinds, imports_kinds, globals_kinds, funcs_kinds, hooks_kinds, start_kinds, exports_kinds}
use Rattle.load.proofs.KindLaws.{early, first_passes, refused_cases}
use Rattle.law_forest.proofs.AcceptedLaws.{walk_complete}

-- the first fault, if there is one, is of kind 2 to 22, 27 or 28
record Leads (es : List LoadError) : Type 0 where
  lead : (l : ℕ) (e : LoadError) → first l es ≡ Err e → of_exports e.kind ≡ true

-- a list whose faults are all of these kinds
leads_all : (es : List LoadError) → all_of (λ e. judged e.kind) es ≡ true → Leads es
unfolding of_exports
leads_all es h = record { lead = λ l e q. ap (λ (b : Bool). b || of_names e.kind) (first_passes (λ e. judged e.kind) l es e h q) }

-- the second part counts only where the first is empty
leads_then : (a b : List LoadError) → Leads a → (a ≡ [] → Leads b) → Leads (a ++ b)
leads_then [] b h k = k refl
leads_then (x ∷ a) b h k = record { lead = λ l e q. h.lead l e (unfold first in q) }

infixl 65 ◌⊕◌
◌⊕◌ : {a b : List LoadError} → Leads a → Leads b → Leads (a ++ b)
◌⊕◌ {a} {b} h k = leads_then a b h (λ e. k)

-- of all rules: where the walk would have a fault, a parent rule has one before it
rules_lead : (most : ℕ) → 1 ≤ most → (hosts : List HostFn) (m : Module) → Leads (module_faults most hosts m)
unfolding module_faults
rules_lead most one hosts m =
    leads_then (types_faults m ++ parents_faults most m) (walk_faults most m)
    (leads_all (types_faults m) (types_kinds m) ⊕ leads_all (parents_faults most m) (parents_kinds most m))
    (λ e. leads_all (walk_faults most m) (rw (walk_complete most one m ((append_empty (types_faults m) (parents_faults most m)).0 e).1)))
    ⊕ leads_all (consts_faults most_deep m) (consts_kinds most_deep m)
    ⊕ leads_all (imports_faults hosts m) (imports_kinds hosts m)
    ⊕ leads_all (globals_faults m) (globals_kinds m)
    ⊕ leads_all (funcs_faults m) (funcs_kinds m)
    ⊕ leads_all (codes_faults m) (codes_kinds m)
    ⊕ leads_all (hooks_faults m) (hooks_kinds m)
    ⊕ leads_all (start_faults m) (start_kinds m)
    ⊕ record { lead = λ l e q. first_passes (λ e. of_exports e.kind) l (exports_faults m) e (exports_kinds m) q }

-- load refuses for 1, 23 and 24, for 2 to 22, and for 27 and 28: for no other kind
pub kinds_given : (sheet hosts : List ℕ) (table work : ℕ) (e : LoadError) → load sheet hosts table work ≡ Err e →
    (early e.kind || of_exports e.kind) ≡ true
unfolding answer
kinds_given sheet hosts table work e q = refused_cases sheet hosts table work e q
    (λ t. rw t)
    (λ m hs a.
    let one : 1 ≤ most_of m = most_from_one m.edition in
    let t = (rules_lead (most_of m) one hs m).lead (length (table_of hs m)) e a in
    either (early e.kind) t)
  where
    either : {b : Bool} (a : Bool) → b ≡ true → (a || b) ≡ true
    either true t = refl
    either false t = t

-- 26 is never given
pub missed_never : (sheet hosts : List ℕ) (table work : ℕ) (e : LoadError) → load sheet hosts table work ≡ Err e → e.kind ≡ MissedStruct → ⊥
unfolding early of_exports judged of_names kind_number kind_numbers
missed_never sheet hosts table work e q n =
    let t = kinds_given sheet hosts table work e q in
    let f : (early e.kind || of_exports e.kind) ≡ false = ap (λ (k : LoadErrorKind). early k || of_exports k) n in
    let z : ◌≡◌ {A = ℕ} 0 1 = cc in omega arith
