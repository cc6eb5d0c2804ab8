-- The place of an import in the host list, and what is broken before it is known to hold.
use Prim.Native.Nat.{ℕ, ◌<◌, min}
use mathlib.Core.Path.{◌≡◌, refl, sym, ap, ap₂, ◌∙◌}
use mathlib.Core.List.{List, [], ◌∷◌, ◌++◌, append_assoc}
use mathlib.Core.Bool.{Bool, true, false, cond}
use native.Mathlib.Omega.{arith}
use lib.ListN.{length, get_or}
use borrow.Author.Tests.{ltb-true}
use Rattle.blocks.specs.Blocks.{words}
use Rattle.blocks.specs.Frame.{first_words}
use Rattle.error.specs.declared.LoadErrorKind.{LoadErrorKind}
use Rattle.error.specs.declared.LoadErrorKind.TheVariants.{BadSignature, UnresolvedImport}
use Rattle.error.specs.declared.StrId.{StrId}
use Rattle.error.specs.Verdict.{Verdict, verdict_of}
use Rattle.std.specs.Prelude.{Err, Ok, Option, None, Some, Result}
use Rattle.error.specs.Answer.{unless}
use Rattle.error.specs.VerdictLaws.{none_broken, verdict_stop}
use Rattle.reader.specs.Reader.{many, list_of}
use Rattle.reader.specs.Value.{Whole}
use Rattle.reader.specs.ValueLaws.{whole_inv, value_got, list_whole, list_value}
use Rattle.reader.proofs.SizeLaws.{many_length}
use Rattle.sheet.specs.Module.{Import, Module}
use Rattle.host.specs.Host.{HostFn, host_fn, resolved, is_scheduler}
use Rattle.host.specs.Listed.{found_at, hosts_in}
use Rattle.imports.specs.Params.{sig_params, param_list_faults}
use Rattle.imports.specs.Imports.{host_entry, scheduler_fits, import_faults}
use Rattle.rule5_imports.specs.Links.{linked_of, names_faults, head_faults, unresolved, takes_dyn, scheduler_takes, tail_faults, host_faults}

-- ── a place in the host list is a word ──

pub entry_least : (b : List ℕ) (n k : ℕ) {c r : ℕ} → Whole (list_of host_fn (first_words b n) 2) → k < length (hosts_in (first_words b n))
    → c ≡ get_or (words b) 2 0 → r ≡ min k c → r ≡ k
entry_least b n k {c} h l z y =
    let e : length (hosts_in (first_words b n)) ≡ c =
    whole_inv (many c host_fn (first_words b n) 3) (list_whole host_fn b n 2 h z) (λ hs q g.
    ap length (list_value host_fn b n 2 [] h z ∙ value_got [] g) ∙ many_length c host_fn (first_words b n) 3 hs q g) in
    omega arith

-- ── after the lookup ──

pub linked_entry : (xs : List LoadErrorKind) (k : ℕ) {v : Verdict} → v ≡ Ok tt → v ≡ verdict_of xs → Ok k ≡ linked_of xs k
unfolding linked_of
linked_entry xs k e z = sym (ap (λ l. linked_of l k) (none_broken xs e z))

pub linked_broken : (xs : List LoadErrorKind) (k : ℕ) (b : LoadErrorKind) {v : Verdict} → v ≡ Err b → v ≡ verdict_of xs
    → Err b ≡ linked_of xs k
unfolding linked_of verdict_of
linked_broken [] k b e z = let y : ◌≡◌ {A = ℕ} 0 1 = cc in absurd (omega arith)
linked_broken (x ∷ xs) k b e z = let y : b ≡ x = cc in ap Err y

-- ── the lookup ──

module _ (hosts : List HostFn) (e : ℕ) {f : Option (ℕ × Bool)} (z : f ≡ found_at hosts e) where
  found_at_lem : {k : ℕ} {s : Bool} {C : Type 0} → f ≡ Some (k, s) → (resolved hosts e ≡ true → k ≡ e → s ≡ is_scheduler hosts e → C) → C
  unfolding found_at
  found_at_lem {k} {s} {C} u c = go (resolved hosts e) refl (sym u ∙ z)
    where
      go : (x : Bool) → resolved hosts e ≡ x → ◌≡◌ {A = Option (ℕ × Bool)} (Some (k, s)) (cond x (Some (e, is_scheduler hosts e)) None) → C
      go true y q =
          let same : ◌≡◌ {A = ℕ × Bool} (k, s) (e, is_scheduler hosts e) = cc in
          c y (ap (λ (p : ℕ × Bool). p.0) same) (ap (λ (p : ℕ × Bool). p.1) same)
      go false y q = let w : ◌≡◌ {A = ℕ} 0 1 = cc in absurd (omega arith)

  found_none : f ≡ None → resolved hosts e ≡ false
  unfolding found_at
  found_none u = go (resolved hosts e) refl (sym u ∙ z)
    where
      go : (x : Bool) → resolved hosts e ≡ x → None ≡ cond {A = Option (ℕ × Bool)} x (Some (e, is_scheduler hosts e)) None
          → resolved hosts e ≡ false
      go true y q = let w : ◌≡◌ {A = ℕ} 0 1 = cc in absurd (omega arith)
      go false y q = y

  pub host_place : {k : ℕ} {s : Bool} → f ≡ Some (k, s) → k < length hosts
  unfolding resolved
  host_place u = found_at_lem u λ y a b. omega (arith, ltb-true e (length hosts) y)

module _ (hosts : List HostFn) (m : Module) (i : Import) {f : Option (ℕ × Bool)} (z : f ≡ found_at hosts (host_entry m hosts i)) where
  pub host_linked : {k j : ℕ} {s : Bool} {r : Result ℕ LoadErrorKind} → f ≡ Some (k, s) → j ≡ k → r ≡ linked_of (tail_faults m s i) j
      → r ≡ linked_of (host_faults hosts m i) (host_entry m hosts i)
  unfolding host_faults
  host_linked {k} {j} {s} u v g = found_at_lem hosts (host_entry m hosts i) z u λ y a b.
      g ∙ ap₂ (λ s k. linked_of (tail_faults m s i) k) b (v ∙ a)
      ∙ sym (ap
      (λ x. linked_of (unless x (unresolved i) ++ tail_faults m (is_scheduler hosts (host_entry m hosts i)) i)
      (host_entry m hosts i)) y)

  pub host_missing : {b : LoadErrorKind} → f ≡ None → b ≡ unresolved i → Err b ≡ linked_of (host_faults hosts m i) (host_entry m hosts i)
  unfolding host_faults linked_of
  host_missing u v =
      ap Err v
      ∙ sym (ap
      (λ x. linked_of (unless x (unresolved i) ++ tail_faults m (is_scheduler hosts (host_entry m hosts i)) i) (host_entry m hosts i))
      (found_none hosts (host_entry m hosts i) z u))

pub names_missing : (i : Import) (a b : StrId) → a.0 ≡ i.module_name → b.0 ≡ i.name → UnresolvedImport a b ≡ unresolved i
unfolding unresolved
names_missing i a b e k = ap₂ (λ (x y : ℕ). UnresolvedImport (record { 0 = x }) (record { 0 = y })) e k

-- ── all of the rule ──

module _ (hosts : List HostFn) (m : Module) (i : Import) {v : Verdict} (z : v ≡ verdict_of (head_faults m i)) where
  parts : import_faults hosts m i ≡ head_faults m i ++ host_faults hosts m i
  unfolding import_faults head_faults names_faults host_faults tail_faults scheduler_takes takes_dyn unresolved scheduler_fits
  parts =
      let c = unless (resolved hosts (host_entry m hosts i)) (unresolved i) in
      let d = unless (scheduler_fits m hosts i) BadSignature in
      let e = param_list_faults m i.params (sig_params m i.sig) in
      append_assoc (head_faults m i ++ c) d e ∙ append_assoc (head_faults m i) c (d ++ e)

  pub import_linked : {r : Result ℕ LoadErrorKind} → v ≡ Ok tt → r ≡ linked_of (host_faults hosts m i) (host_entry m hosts i)
      → r ≡ linked_of (import_faults hosts m i) (host_entry m hosts i)
  import_linked u g =
      g ∙ sym (ap (λ l. linked_of (l ++ host_faults hosts m i) (host_entry m hosts i)) (none_broken (head_faults m i) u z))
      ∙ sym (ap (λ l. linked_of l (host_entry m hosts i)) parts)

  pub import_stop : {b : LoadErrorKind} → v ≡ Err b → Err b ≡ linked_of (import_faults hosts m i) (host_entry m hosts i)
  import_stop {b} u =
      linked_broken (head_faults m i ++ host_faults hosts m i) (host_entry m hosts i) b refl
      (verdict_stop (head_faults m i) (host_faults hosts m i) b u z)
      ∙ sym (ap (λ l. linked_of l (host_entry m hosts i)) parts)
