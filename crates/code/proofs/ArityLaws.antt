-- What the arity test says of a least and a greatest number, and which numbers an import gives it.
use Rattle.std.specs.Prelude.{ℕ, ◌≤◌, ◌<◌, ◌≡◌, refl, List, [], ◌∷◌, ◌++◌, Bool, true, false, not, eqb, leb, length, None, Some}
use Rattle.std.proofs.Common.{sym, ◌∙◌, arith, le-leb, eq-eqb, ne_eqb}
use Rattle.std.proofs.Math.Path.{ap, ap₂}
use Rattle.std.proofs.Math.Bool.{cond}
use Rattle.std.proofs.Math.Decide.{dec_lt}
use Rattle.std.proofs.lemmas.Bool.{lt-leb}
use Rattle.lists.specs.ListLaws.{keep_few}
use Rattle.error.specs.declared.LoadErrorKind.{LoadErrorKind}
use Rattle.error.specs.declared.LoadErrorKind.TheVariants.{ArityMismatch, CalleeHasCaptures}
use Rattle.error.specs.Answer.{unless}
use Rattle.sheet.specs.Module.{Param, ParamList, Import, Func, Module}
use Rattle.sheet.specs.Editions.{may_leave_out}
use Rattle.imports.specs.Params.{sig_params, optional}
use Rattle.code.specs.Callee.{func_at, no_captures}
use Rattle.code.specs.Code.{window_faults, arity_faults, direct_faults, mandatory, most_arguments, fewest_arguments}

-- ── the test ──

module _ (least most found : ℕ) where
  by_tests : (p q : Bool) → leb least found ≡ p → leb found most ≡ q →
      arity_faults least most found ≡ unless p (ArityMismatch least found) ++ unless q (ArityMismatch most found)
  unfolding arity_faults
  by_tests p q e f = ap₂ (λ (p q : Bool). unless p (ArityMismatch least found) ++ unless q (ArityMismatch most found)) e f

  -- too few: the least first, whatever else
  pub arity_few : found < least →
      arity_faults least most found ≡ ArityMismatch least found ∷ unless (leb found most) (ArityMismatch most found)
  arity_few h = by_tests false (leb found most) (lt-leb least found h) refl

  pub arity_many : least ≤ found → most < found → arity_faults least most found ≡ ArityMismatch most found ∷ []
  arity_many g h = by_tests true false (le-leb least found g) (lt-leb found most h)

  pub arity_right : least ≤ found → found ≤ most → arity_faults least most found ≡ []
  arity_right g h = by_tests true true (le-leb least found g) (le-leb found most h)

  -- one of the three
  pub arity_cases : {C : Type 0} → (found < least → C) → (least ≤ found → most < found → C) → (least ≤ found → found ≤ most → C) → C
  arity_cases {C} few many right = go (dec_lt found least) (dec_lt most found)
    where
      go : Dec (found < least) → Dec (most < found) → C
      go (yes h) d = few h
      go (no h) (yes d) = many (omega arith) d
      go (no h) (no d) = right (omega arith) (omega arith)

-- one number twice: exactly so many, as a test for one number has it
pub arity_same : (params found : ℕ) → arity_faults params params found ≡ unless (eqb params found) (ArityMismatch params found)
arity_same params found =
    let mismatch = ArityMismatch params found in
    let differ : (params ≡ found → ⊥) → mismatch ∷ [] ≡ unless (eqb params found) mismatch =
    λ n. sym (ap (λ (b : Bool). unless b mismatch) (ne_eqb params found n)) in
    arity_cases params params found
    (λ h. arity_few params params found h ∙ ap (λ (b : Bool). mismatch ∷ unless b mismatch) (le-leb found params (omega arith))
    ∙ differ (λ e. omega arith))
    (λ g h. arity_many params params found g h ∙ differ (λ e. omega arith))
    (λ g h. arity_right params params found g h ∙ sym (ap (λ (b : Bool). unless b mismatch) (eq-eqb params found (omega arith))))

-- so a direct call is right with just as many arguments as the signature has
pub direct_same : (m : Module) (f : Func) (g first n : ℕ) →
    direct_faults m f g first n
    ≡ window_faults f first n
    ++ unless (eqb (length (sig_params m (func_at m g).sig)) n) (ArityMismatch (length (sig_params m (func_at m g).sig)) n)
    ++ unless (no_captures (func_at m g)) CalleeHasCaptures
unfolding direct_faults
direct_same m f g first n =
    ap (λ (ks : List LoadErrorKind). window_faults f first n ++ ks ++ unless (no_captures (func_at m g)) CalleeHasCaptures)
    (arity_same (length (sig_params m (func_at m g).sig)) n)

-- ── the numbers of an import ──

module _ (m : Module) (i : Import) where
  by_edition : (b : Bool) → may_leave_out m.edition ≡ b →
      fewest_arguments m i ≡ cond b (mandatory i.params (most_arguments m i)) (most_arguments m i)
  unfolding fewest_arguments
  by_edition b e = ap (λ (b : Bool). cond b (mandatory i.params (most_arguments m i)) (most_arguments m i)) e

  -- nothing may be left out
  pub fewest_all : may_leave_out m.edition ≡ false → fewest_arguments m i ≡ most_arguments m i
  fewest_all e = by_edition false e

  -- what is optional may
  pub fewest_mandatory : may_leave_out m.edition ≡ true → fewest_arguments m i ≡ mandatory i.params (most_arguments m i)
  fewest_mandatory e = by_edition true e

-- they are no more than the most, where the list fits the signature
pub fewest_few : (m : Module) (i : Import) → ((ps : List Param) → i.params ≡ Some ps → length ps ≡ most_arguments m i) →
    fewest_arguments m i ≤ most_arguments m i
unfolding mandatory
fewest_few m i h = go (may_leave_out m.edition) refl i.params refl
  where
    go : (b : Bool) → may_leave_out m.edition ≡ b → (l : ParamList) → i.params ≡ l → fewest_arguments m i ≤ most_arguments m i
    go false e l q = omega (arith, fewest_all m i e)
    go true e None q = omega (arith, fewest_mandatory m i e ∙ ap (λ (l : ParamList). mandatory l (most_arguments m i)) q)
    go true e (Some ps) q =
        omega (
          arith,
          fewest_mandatory m i e ∙ ap (λ (l : ParamList). mandatory l (most_arguments m i)) q,
          keep_few (λ p. not (optional p)) ps,
          h ps q,
        )
