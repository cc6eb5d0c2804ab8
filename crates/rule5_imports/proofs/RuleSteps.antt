-- Names, signature, scheduler and parameter list of an import, step by step.
use Prim.Native.Nat.{ℕ, ◌+◌, ◌≤◌, ◌<◌, max}
use mathlib.Core.Path.{◌≡◌, refl, sym, ap, ap₂, subst, ◌∙◌}
use mathlib.Core.List.{List, [], ◌∷◌, ◌++◌}
use mathlib.Core.Bool.{Bool, true, false, ◌&&◌}
use Rattle.std.specs.Prelude.{None, Err, Ok, Option}
use native.Mathlib.Omega.{arith}
use lib.Dec.{ltb}
use lib.ListN.{length, get_or}
use borrow.Author.Tests.{ltb-true}
use Rattle.error.specs.declared.What.TheVariants.{Strings}
use Rattle.error.specs.declared.LoadErrorKind.{LoadErrorKind}
use Rattle.error.specs.declared.LoadErrorKind.TheVariants.{OutOfRange, BadSignature}
use Rattle.error.specs.Verdict.{Verdict, verdict_of}
use Rattle.error.specs.Answer.{unless, in_range}
use Rattle.error.specs.VerdictLaws.{none_broken, verdict_then, verdict_stop}
use Rattle.reader.specs.Reader.{list_of}
use Rattle.reader.specs.Text.{string}
use Rattle.reader.specs.Value.{Whole, value_of}
use Rattle.sheet.specs.Module.{Import, Module}
use Rattle.sheet.specs.Decode.{value_type, param_list}
use Rattle.host.specs.Host.{HostFn, lookup}
use Rattle.host.specs.Listed.{found, found_at, text_at}
use Rattle.imports.specs.Params.{signature_faults, sig_params, sig_results, param_list_faults}
use Rattle.imports.specs.Imports.{one_dyn, host_entry}
use Rattle.open_layout.specs.Opened.{module_in}
use Rattle.open_sheet.specs.declared.Opened.{Opened}
use Rattle.open_sheet.specs.Ready.{Ready, pos_at}
use Rattle.open_sheet.specs.ReadyLaws.{count_strings, entry_room, entry_whole, entry_value}
use Rattle.rule_signatures.specs.Signature.{HasSig}
use Rattle.rule_signatures.specs.SignatureLaws.{checked_sig}
use Rattle.rule5_imports.specs.Links.{names_faults, head_faults, HeadHolds, takes_dyn, scheduler_takes, tail_faults}

-- ── names ──

module _ (ws w : List ℕ) (o : Opened) (i : Import) {a b : ℕ} {r : Verdict} (x : Ready ws w o) (e : a ≡ i.module_name) (k : b ≡ i.name) where
  named : (c : ℕ) → c ≡ max i.module_name i.name → r ≡ verdict_of (in_range Strings o.counts.strings c)
      → r ≡ verdict_of (names_faults (module_in ws) i)
  unfolding names_faults
  named c z v = v ∙ ap₂ (λ n c. verdict_of (in_range Strings n c)) (count_strings ws o x.opens) z

  pub names_second : a < b → r ≡ verdict_of (in_range Strings o.counts.strings b) → r ≡ verdict_of (names_faults (module_in ws) i)
  names_second l v = named b (omega arith) v

  pub names_first : b ≤ a → r ≡ verdict_of (in_range Strings o.counts.strings a) → r ≡ verdict_of (names_faults (module_in ws) i)
  names_first l v = named a (omega arith) v

-- ── signature, then names ──

module _ (m : Module) (i : Import) {t : ℕ} {v : Verdict} (e : t ≡ i.sig) (k : v ≡ verdict_of (signature_faults m t)) where
  of_import : v ≡ verdict_of (signature_faults m i.sig)
  of_import = k ∙ ap (λ t. verdict_of (signature_faults m t)) e

  pub head_names : {r : Verdict} → v ≡ Ok tt → r ≡ verdict_of (names_faults m i) → r ≡ verdict_of (head_faults m i)
  unfolding head_faults
  head_names z y = verdict_then (signature_faults m i.sig) (names_faults m i) z of_import y

  pub head_stop : {b : LoadErrorKind} → v ≡ Err b → Err b ≡ verdict_of (head_faults m i)
  unfolding head_faults
  head_stop {b} z = verdict_stop (signature_faults m i.sig) (names_faults m i) b z of_import

pub head_holds : (m : Module) (i : Import) {r : Verdict} → r ≡ Ok tt → r ≡ verdict_of (head_faults m i) → HeadHolds m i
unfolding head_faults names_faults
head_holds m i e k = go (signature_faults m i.sig) refl (ltb (max i.module_name i.name) (length m.strings)) refl
    (none_broken (head_faults m i) e k)
  where
    go : (l : List LoadErrorKind) → signature_faults m i.sig ≡ l → (x : Bool) → ltb (max i.module_name i.name) (length m.strings) ≡ x
        → l ++ unless x (OutOfRange Strings (max i.module_name i.name)) ≡ [] → HeadHolds m i
    go [] a true b e =
        record {
          sig = checked_sig m i.sig refl (unfold verdict_of in sym (ap verdict_of a));
          names = ltb-true (max i.module_name i.name)
              (length m.strings) b;
        }
    go [] a false b e = let z : ◌≡◌ {A = ℕ} 0 1 = cc in absurd (omega arith)
    go (y ∷ l) a x b e = let z : ◌≡◌ {A = ℕ} 0 1 = cc in absurd (omega arith)

-- ── lookup ──

module _ (ws w : List ℕ) (o : Opened) (x : Ready ws w o) (i : Import) (h : HeadHolds (module_in ws) i) where
  module _ (s : ℕ) (l : s < length (module_in ws).strings) where
    room : o.index.strings + s < length w
    room = entry_room string ws (module_in ws).strings w o.index.strings x.strings s l

    whole : {p : ℕ} → p ≡ pos_at w o.index.strings s → Whole (string ws p)
    whole e = subst (λ q. Whole (string ws q)) (sym e) (entry_whole string ws (module_in ws).strings w o.index.strings x.strings [] s l)

    value : {p : ℕ} → p ≡ pos_at w o.index.strings s → text_at ws p ≡ get_or (module_in ws).strings s []
    value e = ap (text_at ws) e ∙ entry_value string ws (module_in ws).strings w o.index.strings x.strings [] s l

  module _ (s : ℕ) where
    pub module_room : s ≡ i.module_name → o.index.strings + s < length w
    module_room e = room s (omega (arith, h.names))

    pub name_room : s ≡ i.name → o.index.strings + s < length w
    name_room e = room s (omega (arith, h.names))

    module _ {p : ℕ} (k : p ≡ pos_at w o.index.strings s) where
      pub module_whole : s ≡ i.module_name → Whole (string ws p)
      module_whole e = whole s (omega (arith, h.names)) k

      pub name_whole : s ≡ i.name → Whole (string ws p)
      name_whole e = whole s (omega (arith, h.names)) k

  pub host_found : (hosts : List HostFn) (s t p q : ℕ) {r : Option (ℕ × Bool)} → s ≡ i.module_name → t ≡ i.name
      → p ≡ pos_at w o.index.strings s → q ≡ pos_at w o.index.strings t
      → r ≡ found hosts (text_at ws p) (text_at ws q) → r ≡ found_at hosts (host_entry (module_in ws) hosts i)
  unfolding found host_entry
  host_found hosts s t p q e k u v z =
      let a : text_at ws p ≡ get_or (module_in ws).strings i.module_name [] = value s (omega (arith, h.names)) u
      ∙ ap (λ j. get_or (module_in ws).strings j []) e in
      let c : text_at ws q ≡ get_or (module_in ws).strings i.name [] = value t (omega (arith, h.names)) v
      ∙ ap (λ j. get_or (module_in ws).strings j []) k in
      z ∙ ap₂ (λ m n. found_at hosts (lookup hosts m n)) a c

-- ── the scheduler's signature ──

module _ (m : Module) (t : ℕ) where
  module _ (ws : List ℕ) (p : ℕ) {u : Bool} (e : value_of [] (list_of value_type ws p) ≡ sig_params m t)
      (k : u ≡ one_dyn (value_of [] (list_of value_type ws p))) where
    first : (v : Bool) → u ≡ v → (v && one_dyn (sig_results m t)) ≡ takes_dyn m t
    unfolding takes_dyn
    first v z = ap (λ i. i && one_dyn (sig_results m t)) (sym z ∙ k ∙ ap one_dyn e)

    pub takes_result : (q : ℕ) {r : Bool} → u ≡ true → value_of [] (list_of value_type ws q) ≡ sig_results m t
        → r ≡ one_dyn (value_of [] (list_of value_type ws q)) → r ≡ takes_dyn m t
    takes_result q z y g = g ∙ ap one_dyn y ∙ first true z

    pub takes_other : u ≡ false → false ≡ takes_dyn m t
    takes_other z = first false z

  module _ {s : Bool} where
    pub takes_scheduler : {r : Bool} → s ≡ true → r ≡ takes_dyn m t → r ≡ scheduler_takes m s t
    unfolding scheduler_takes
    takes_scheduler z k = k ∙ ap (λ i. scheduler_takes m i t) (sym z)

    pub takes_any : s ≡ false → true ≡ scheduler_takes m s t
    unfolding scheduler_takes
    takes_any z = ap (λ i. scheduler_takes m i t) (sym z)

-- ── scheduler, then parameter list ──

pub head_sig : (m : Module) (i : Import) {t : ℕ} → HeadHolds m i → t ≡ i.sig → HasSig m t
head_sig m i h e = subst (HasSig m) (sym e) h.sig

module _ (m : Module) (i : Import) (s : Bool) {t : ℕ} {u : Bool} (e : t ≡ i.sig) (k : u ≡ scheduler_takes m s t) where
  tail : (v : Bool) → u ≡ v
      → verdict_of (unless v BadSignature ++ param_list_faults m i.params (sig_params m i.sig)) ≡ verdict_of (tail_faults m s i)
  unfolding tail_faults
  tail v z =
      ap (λ b. verdict_of (unless b BadSignature ++ param_list_faults m i.params (sig_params m i.sig)))
      (sym z ∙ k ∙ ap (scheduler_takes m s) e)

  pub tail_broken : u ≡ false → Err BadSignature ≡ verdict_of (tail_faults m s i)
  unfolding verdict_of
  tail_broken z = tail false z

  pub tail_params : (ws : List ℕ) (at p : ℕ) {r : Verdict} → u ≡ true → value_of None (param_list ws at) ≡ i.params
      → value_of [] (list_of value_type ws p) ≡ sig_params m t
      → r ≡ verdict_of (param_list_faults m (value_of None (param_list ws at)) (value_of [] (list_of value_type ws p)))
      → r ≡ verdict_of (tail_faults m s i)
  tail_params ws at p z y v g =
      g ∙ ap₂ (λ l vs. verdict_of (param_list_faults m l vs)) y (v ∙ ap (sig_params m) e) ∙ tail true z
