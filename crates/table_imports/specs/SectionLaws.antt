-- Sections in code and sections by definition; what a caller knows where no rule is broken.
use Rattle.std.specs.Prelude.{ℕ, suc, ◌+◌, ◌*◌, ◌≤◌, ◌<◌, ◌≡◌, Bool, eqb, ltb, length}
use Rattle.std.proofs.Math.Path.{refl, ap}
use Rattle.std.proofs.Common.{sym, ap₂, ◌∙◌, arith, zero-add}
use mathlib.Core.List.{List, [], ◌∷◌, ◌++◌, map}
use Rattle.std.proofs.Math.Bool.{true, false, cond}
use Rattle.std.proofs.Math.ListN.{get_or}
use Rattle.std.proofs.lemmas.List.{length-map}
use borrow.Author.Tests.{lt-ltb, ltb-true}
use Rattle.lists.specs.Lists.{all_of, concat_map, from}
use Rattle.lists.specs.ListLaws.{and_second, all_at, all_from, length_from, length_concat_map}
use Rattle.law_faults.specs.Empty.{append_empty, map_empty, range_empty, every}
use Rattle.error.specs.declared.What.TheVariants.{Functions, Imports}
use Rattle.std.specs.Prelude.{Ok}
use Rattle.error.specs.Answer.{in_module}
use Rattle.error.specs.Verdict.{verdict_of}
use Rattle.reader.specs.Reader.{encode_list}
use Rattle.sheet.specs.Module.{Hook, Module}
use Rattle.sheet.specs.Coded.{coded_hook}
use Rattle.sheet.proofs.ModuleCodes.{hooks_codes}
use Rattle.host.specs.Host.{HostFn}
use Rattle.canon.specs.Canon.{canon_type}
use Rattle.imports.specs.Params.{signature_faults}
use Rattle.imports.specs.Imports.{import_faults, imports_faults}
use Rattle.code.specs.Callee.{no_import, import_at}
use Rattle.hooks.specs.Hooks.{hook_function_faults, hook_import_faults, hook_faults, hooks_faults}
use Rattle.open_layout.specs.Opened.{module_in}
use Rattle.open_sheet.specs.declared.Opened.{Opened}
use Rattle.open_sheet.specs.Ready.{Ready}
use Rattle.open_sheet.specs.ReadyLaws.{imports_inside, funcs_inside}
use Rattle.rule_signatures.specs.SignatureLaws.{checked_sig}
use Rattle.rule5_imports.specs.Links.{HostEntries}
use Rattle.table.specs.Records.{import_record, binding_word}
use Rattle.table.specs.Table.{hook_section, canon_section}
use Rattle.table_imports.specs.Sections.{each_of, linked_import, linked_imports, SigsInside, canon_of, binding_fits, BindingsFit}

-- ── members by number ──

-- the members of a list, by their numbers
by_number : {A : Type 0} (f : A → List ℕ) (g : ℕ → List ℕ) (d : A) (k : ℕ) (xs : List A) → ((i : ℕ) → i < length xs → g (k + i) ≡ f (get_or xs i d))
    → concat_map g (from k (length xs)) ≡ concat_map f xs
by_number f g d k [] h = refl
by_number f g d k (x ∷ xs) h =
    let z : k ≡ k + 0 = omega arith in
    ap₂ (λ a b. a ++ b) (ap g z ∙ h 0 (omega arith)) (by_number f g d (suc k) xs λ i l. let y : suc k + i ≡ k + suc i = omega arith in ap g y ∙ h (suc i) (omega arith))

-- one word for each number
one_each : (f : ℕ → ℕ) (ns : List ℕ) → concat_map (λ i. f i ∷ []) ns ≡ map f ns
one_each f [] = refl
one_each f (n ∷ ns) = ap (λ l. f n ∷ l) (one_each f ns)

-- ── imports ──

-- with the places of all imports in work, the section is the definition's
pub linked_section : (hosts : List HostFn) (ws w : List ℕ) (o : Opened) → HostEntries hosts ws w o (length (module_in ws).imports)
    → linked_imports ws w o ≡ encode_list (import_record hosts (module_in ws)) (module_in ws).imports
unfolding linked_imports each_of
linked_section hosts ws w o x =
    ap (λ l. length (module_in ws).imports ∷ l) (by_number (import_record hosts (module_in ws)) (linked_import ws w o) no_import 0 (module_in ws).imports λ i h. one i h)
  where
    one : (i : ℕ) → i < length (module_in ws).imports → linked_import ws w o (0 + i) ≡ import_record hosts (module_in ws) (get_or (module_in ws).imports i no_import)
    one i h = ap (linked_import ws w o) (zero-add i) ∙ (unfold linked_import import_record import_at in ap (λ k. canon_type (module_in ws).types (import_at (module_in ws) i).sig ∷ k ∷ []) (x.entry i h))

pub linked_length : (ws w : List ℕ) (o : Opened) → length (linked_imports ws w o) ≡ 1 + 2 * length (module_in ws).imports
unfolding linked_imports linked_import each_of
linked_length ws w o =
    let n = length (module_in ws).imports in
    omega (arith, length_concat_map (linked_import ws w o) 2 (λ i. refl) (from 0 n), length_from 0 n)

-- the signatures are types where no import breaks a rule
pub sigs_inside : (hosts : List HostFn) (m : Module) → imports_faults hosts m ≡ [] → SigsInside m
unfolding imports_faults
sigs_inside hosts m e =
    let f : concat_map (import_faults hosts m) m.imports ≡ [] = (map_empty in_module (concat_map (import_faults hosts m) m.imports)).0 e in
    record { inside = λ i h. sig_inside i ((every no_import (import_faults hosts m) m.imports).0 f i h) }
  where
    sig_inside : (i : ℕ) → import_faults hosts m (get_or m.imports i no_import) ≡ [] → (import_at m i).sig < length m.types
    sig_inside i g = unfold import_faults import_at verdict_of in
        let a = get_or m.imports i no_import in
        let g₁ = ((append_empty _ _).0 g).0 in
        let g₂ = ((append_empty _ _).0 g₁).0 in
        let g₃ = ((append_empty _ _).0 g₂).0 in
        let s : signature_faults m a.sig ≡ [] = ((append_empty _ _).0 g₃).0 in
        (checked_sig m a.sig {r = (Ok tt)} refl (ap verdict_of (sym s))).inside

-- ── canonical numbers ──

pub canon_section_lem : (m : Module) → canon_section m ≡ length m.types ∷ each_of (canon_of m.types) (length m.types)
unfolding canon_section each_of canon_of
canon_section_lem m =
    let ns = from 0 (length m.types) in
    ap₂ (λ k l. k ∷ l) (length-map ns (canon_type m.types) ∙ length_from 0 (length m.types)) (sym (one_each (canon_type m.types) ns))

pub canon_length : (m : Module) → length (canon_section m) ≡ 1 + length m.types
unfolding canon_section
canon_length m =
    let ns = from 0 (length m.types) in
    omega (arith, length-map ns (canon_type m.types), length_from 0 (length m.types))

-- ── hooks ──

pub hook_length : (m : Module) → length (hook_section m) ≡ 32
unfolding hook_section
hook_length m = refl

-- the words of all bindings fit where no hook breaks a rule
module _ (ws w : List ℕ) (o : Opened) (x : Ready ws w o) (few : o.layout.words ≤ 520192) where
  abbrev m : Module
  m = module_in ws

  none : Hook
  none = record { hook = 0; kind = 0; index = 0 }

  index_few : (b : Hook) → hook_faults m b ≡ [] → b.index < 520192
  unfolding hook_faults
  index_few b e = go (eqb b.kind 0) e
    where
      go : (t : Bool) → cond t (hook_function_faults m b.hook b.index) (hook_import_faults m b.hook b.index) ≡ [] → b.index < 520192
      go true e = unfold hook_function_faults in
          omega (arith, funcs_inside ws w o x, (range_empty Functions (length m.funcs) b.index).0 ((append_empty _ _).0 e).0)
      go false e = unfold hook_import_faults in
          omega (arith, imports_inside ws w o x, (range_empty Imports (length m.imports) b.index).0 ((append_empty _ _).0 e).0)

  kind_few : (b : Hook) → coded_hook b ≡ true → b.kind < 2
  unfolding coded_hook
  kind_few b e = ltb-true b.kind 2 (and_second (ltb b.hook 31) (ltb b.kind 2) e)

  pub bindings_fit : hooks_faults m ≡ [] → BindingsFit m
  unfolding hooks_faults
  bindings_fit e =
      let f : concat_map (hook_faults m) m.hooks ≡ [] = (map_empty in_module (concat_map (hook_faults m) m.hooks)).0 e in
      let c : all_of coded_hook m.hooks ≡ true = ((hooks_codes ws).found o.layout.hooks m.hooks o.layout.start x.opens.located.hooks).fine in
      record { fits = all_from binding_fits m.hooks none λ i h. one (get_or m.hooks i none) ((every none (hook_faults m) m.hooks).0 f i h) (all_at coded_hook m.hooks i none c h) }
    where
      one : (b : Hook) → hook_faults m b ≡ [] → coded_hook b ≡ true → binding_fits b ≡ true
      one b f c = unfold binding_fits binding_word in lt-ltb (1 + b.kind + 2 * b.index) 4294967296 (omega (arith, index_few b f, kind_few b c))
