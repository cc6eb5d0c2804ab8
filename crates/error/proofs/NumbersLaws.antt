-- The six numbers of a refusal, by its kind.
use Rattle.std.specs.Prelude.{ℕ, ◌≡◌, List, [], ◌∷◌, ◌++◌}
use Rattle.std.proofs.Common.{sym, ◌∙◌}
use Rattle.std.proofs.Math.Path.{ap}
use Rattle.error.specs.declared.StrId.{StrId}
use Rattle.error.specs.declared.What.{What}
use Rattle.error.specs.declared.TypeKind.{TypeKind}
use Rattle.error.specs.declared.LoadErrorKind.{LoadErrorKind}
use Rattle.error.specs.declared.LoadErrorKind.TheVariants.{UnresolvedImport, OutOfRange, ArityMismatch, WrongTypeKind, BadHook}
use Rattle.error.specs.declared.LoadErrorKind.TheVariants.{ExportNameOutOfRange, DuplicateExport}
use Rattle.error.specs.declared.LoadError.{LoadError}
use Rattle.error.specs.Answer.{Loaded}
use Rattle.std.specs.Prelude.{Err, Ok}
use Rattle.error.specs.Answer.{what_word, type_kind_word, kind_numbers, numbers}

pub by_kind : {six : List ℕ} {k : LoadErrorKind} (K : LoadErrorKind) (f p : ℕ) → k ≡ K → six ≡ kind_numbers K ++ (f ∷ p ∷ []) →
    six ≡ kind_numbers k ++ (f ∷ p ∷ [])
by_kind K f p e h = h ∙ ap (λ x. kind_numbers x ++ (f ∷ p ∷ [])) (sym e)

module _ {six : List ℕ} {k : LoadErrorKind} (f p : ℕ) where
  pub by_import : (m n : StrId) → k ≡ UnresolvedImport m n → six ≡ 2 ∷ 0 ∷ m.0 ∷ n.0 ∷ f ∷ p ∷ [] → six ≡ kind_numbers k ++ (f ∷ p ∷ [])
  by_import m n e h = by_kind (UnresolvedImport m n) f p e (unfold kind_numbers in h)

  pub by_range : (what : What) (i : ℕ) {w : ℕ} → k ≡ OutOfRange what i → w ≡ what_word what → six ≡ 3 ∷ w ∷ i ∷ 0 ∷ f ∷ p ∷ [] →
      six ≡ kind_numbers k ++ (f ∷ p ∷ [])
  by_range what i e z h = by_kind (OutOfRange what i) f p e (unfold kind_numbers in h ∙ ap (λ w. 3 ∷ w ∷ i ∷ 0 ∷ f ∷ p ∷ []) z)

  pub by_arity : (x y : ℕ) → k ≡ ArityMismatch x y → six ≡ 8 ∷ 0 ∷ x ∷ y ∷ f ∷ p ∷ [] → six ≡ kind_numbers k ++ (f ∷ p ∷ [])
  by_arity x y e h = by_kind (ArityMismatch x y) f p e (unfold kind_numbers in h)

  pub by_wanted : (wanted : TypeKind) {w : ℕ} → k ≡ WrongTypeKind wanted → w ≡ type_kind_word wanted → six ≡ 11 ∷ w ∷ 0 ∷ 0 ∷ f ∷ p ∷ [] →
      six ≡ kind_numbers k ++ (f ∷ p ∷ [])
  by_wanted wanted e z h = by_kind (WrongTypeKind wanted) f p e (unfold kind_numbers in h ∙ ap (λ w. 11 ∷ w ∷ 0 ∷ 0 ∷ f ∷ p ∷ []) z)

  pub by_hook : (hook : ℕ) → k ≡ BadHook hook → six ≡ 19 ∷ 0 ∷ hook ∷ 0 ∷ f ∷ p ∷ [] → six ≡ kind_numbers k ++ (f ∷ p ∷ [])
  by_hook hook e h = by_kind (BadHook hook) f p e (unfold kind_numbers in h)

  pub by_name : (name : StrId) → k ≡ ExportNameOutOfRange name → six ≡ 27 ∷ 0 ∷ name.0 ∷ 0 ∷ f ∷ p ∷ [] →
      six ≡ kind_numbers k ++ (f ∷ p ∷ [])
  by_name name e h = by_kind (ExportNameOutOfRange name) f p e (unfold kind_numbers in h)

  pub by_repeat : (i : ℕ) → k ≡ DuplicateExport i → six ≡ 28 ∷ 0 ∷ i ∷ 0 ∷ f ∷ p ∷ [] → six ≡ kind_numbers k ++ (f ∷ p ∷ [])
  by_repeat i e h = by_kind (DuplicateExport i) f p e (unfold kind_numbers in h)

pub ruleset payloads = (by_import, by_range, by_arity, by_wanted, by_hook, by_name, by_repeat)

pub by_accepted : {six : List ℕ} {a : Loaded} (l : ℕ) → a ≡ Ok l → six ≡ 0 ∷ 0 ∷ l ∷ 0 ∷ 0 ∷ 0 ∷ [] → six ≡ numbers a
unfolding numbers
by_accepted l e h = h ∙ ap numbers (sym e)

pub by_refused : {six : List ℕ} {a : Loaded} (e : LoadError) → a ≡ Err e → six ≡ kind_numbers e.kind ++ (e.func ∷ e.pc ∷ []) →
    six ≡ numbers a
unfolding numbers
by_refused e k h = h ∙ ap numbers (sym k)
