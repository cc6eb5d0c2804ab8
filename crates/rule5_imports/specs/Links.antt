-- What code says of an import: its place in the host list, or how it is broken first.
use Rattle.std.specs.Prelude.{ℕ, ◌+◌, ◌*◌, ◌<◌, max, ◌≡◌, List, [], ◌∷◌, ◌++◌, Bool, not, ◌&&◌, ◌||◌, length, get_or, Ok, Result, Err}
use Rattle.lists.specs.Lists.{concat_map_from}
use Rattle.error.specs.declared.What.TheVariants.{Strings}
use Rattle.error.specs.declared.LoadErrorKind.{LoadErrorKind}
use Rattle.error.specs.declared.LoadErrorKind.TheVariants.{BadSignature, UnresolvedImport}
use Rattle.error.specs.Verdict.{Verdict, Judged}
use Rattle.error.specs.Answer.{unless, in_range, string_number}
use Rattle.sheet.specs.Module.{Import, Module}
use Rattle.host.specs.Host.{HostFn, resolved, is_scheduler}
use Rattle.imports.specs.Params.{signature_faults, sig_params, sig_results, param_list_faults}
use Rattle.imports.specs.Imports.{one_dyn, host_entry, import_faults}
use Rattle.code.specs.Callee.{import_at}
use Rattle.open_layout.specs.Opened.{module_in}
use Rattle.open_sheet.specs.declared.Opened.{Opened}
use Rattle.rule_signatures.specs.Signature.{HasSig}

-- the place, if nothing is broken
unfoldable pub linked_of : List LoadErrorKind → ℕ → Result ℕ LoadErrorKind
linked_of [] k = Ok k
linked_of (b ∷ bs) k = Err b

-- ── the rule in parts ──

unfoldable pub names_faults : Module → Import → List LoadErrorKind
names_faults m i = in_range Strings (length m.strings) (max i.module_name i.name)

-- before the lookup
unfoldable pub head_faults : Module → Import → List LoadErrorKind
head_faults m i = signature_faults m i.sig ++ names_faults m i

-- what is known where they hold
pub record HeadHolds (m : Module) (i : Import) : Type 0 where
  pub sig : HasSig m i.sig
  pub names : max i.module_name i.name < length m.strings

unfoldable pub unresolved : Import → LoadErrorKind
unresolved i = UnresolvedImport (string_number i.module_name) (string_number i.name)

-- one dyn to dyn
unfoldable pub takes_dyn : Module → ℕ → Bool
takes_dyn m t = one_dyn (sig_params m t) && one_dyn (sig_results m t)

unfoldable pub scheduler_takes : Module → Bool → ℕ → Bool
scheduler_takes m s t = not s || takes_dyn m t

-- after the lookup, which found a scheduler or not
unfoldable pub tail_faults : Module → Bool → Import → List LoadErrorKind
tail_faults m s i = unless (scheduler_takes m s i.sig) BadSignature ++ param_list_faults m i.params (sig_params m i.sig)

-- from the lookup on
unfoldable pub host_faults : List HostFn → Module → Import → List LoadErrorKind
host_faults hosts m i =
    unless (resolved hosts (host_entry m hosts i)) (unresolved i)
    ++ tail_faults m (is_scheduler hosts (host_entry m hosts i)) i

-- what is broken in the imports, in order
unfoldable pub broken_imports : List HostFn → Module → List LoadErrorKind
broken_imports hosts m = concat_map_from 0 (λ i. import_faults hosts m) m.imports

-- ── the places, stored ──

-- word 5 * words + i is the place of import i, for those below n
pub record HostEntries (hosts : List HostFn) (ws w : List ℕ) (o : Opened) (n : ℕ) : Type 0 where
  pub entry : (i : ℕ) → i < n → get_or w (5 * o.layout.words + i) 0 ≡ host_entry (module_in ws) hosts (import_at (module_in ws) i)

-- all of them, if nothing is broken
pub record EntriesIf (v : Verdict) (hosts : List HostFn) (ws w : List ℕ) (o : Opened) : Type 0 where
  pub entries : v ≡ Ok tt → HostEntries hosts ws w o (length (module_in ws).imports)

pub record LinkedIf (r : Judged) (hosts : List HostFn) (ws w : List ℕ) (o : Opened) : Type 0 where
  pub entries : r ≡ Ok tt → HostEntries hosts ws w o (length (module_in ws).imports)
