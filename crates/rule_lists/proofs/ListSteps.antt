-- Verdicts on parameter lists and call shapes.
use Prim.Native.Nat.{ℕ, ◌+◌, ◌-◌, ◌*◌, ◌≤◌, ◌<◌}
use mathlib.Core.Path.{◌≡◌, refl, sym, ap, ap₂, subst, ◌∙◌}
use mathlib.Core.List.{List, [], map}
use mathlib.Core.Bool.{Bool, true, false, ◌&&◌}
use Rattle.std.specs.Prelude.{None, Some}
use native.Mathlib.Omega.{arith}
use lib.ListN.{get_or}
use Rattle.blocks.specs.Blocks.{words}
use Rattle.blocks.specs.Frame.{first_words}
use Rattle.error.specs.declared.LoadErrorKind.{LoadErrorKind}
use Rattle.error.specs.declared.LoadErrorKind.TheVariants.{BadParamList, BadCallShape}
use Rattle.error.specs.Verdict.{Verdict}
use Rattle.std.specs.Prelude.{Err, Ok}
use Rattle.error.specs.Answer.{unless}
use Rattle.error.specs.Verdict.{verdict_of}
use Rattle.reader.specs.Reader.{list_of}
use Rattle.reader.specs.Value.{Whole, value_of}
use Rattle.sheet.specs.Decode.{value_type, param_of, param_list, arg_of}
use Rattle.open_layout.specs.Opened.{module_in}
use Rattle.open_sheet.specs.declared.Opened.{Opened}
use Rattle.open_sheet.specs.Ready.{Ready}
use Rattle.open_sheet.specs.ReadyLaws.{count_strings}
use Rattle.imports.specs.Params.{valid_params, fits, param_list_faults}
use Rattle.funcs.specs.Shapes.{valid_shape, shape_faults}
use Rattle.law_judging.specs.Judging.{list_faults, Judges, judges_start, judges_end, judges_whole, judges_stop, judges_next}
use Rattle.rule_list_members.specs.declared.ListKind.TheVariants.{Params, Args}
use Rattle.rule_list_members.specs.Members.{pairs_at}
use Rattle.rule_list_marks.specs.Marks.{valid_members}
use Rattle.rule_lists.specs.References.{references_fit}
use Rattle.rule_lists.proofs.ListWords.{to_param, to_arg, param_words, arg_words, pairs_inside, pairs_value, list_ends, values_at, values_inside, values_value, no_params, params_whole, params_some}
use Rattle.rule_lists.proofs.ListDefs.{valid_args, valid_params_lem, other_count}

-- ── a call shape ──

module _ (b w : List ℕ) (o : Opened) (x : Ready (first_words b o.layout.words) w o) (at : ℕ) (h : Whole (list_of arg_of (first_words b o.layout.words) at)) {c : ℕ} (e : c ≡ get_or (words b) at 0) where
  pub shape_inside : at + 1 + 2 * c ≤ o.layout.words
  shape_inside = pairs_inside arg_of to_arg arg_words b o.layout.words at h e

  shape_valid : valid_members Args o.counts.strings (pairs_at (words b) c (at + 1))
      ≡ valid_shape (module_in (first_words b o.layout.words)) (value_of [] (list_of arg_of (first_words b o.layout.words) at))
  shape_valid =
      ap (λ n. valid_members Args n (pairs_at (words b) c (at + 1))) (count_strings (first_words b o.layout.words) o x.opens)
      ∙ valid_args (module_in (first_words b o.layout.words)) (pairs_at (words b) c (at + 1))
      ∙ ap (valid_shape (module_in (first_words b o.layout.words))) (sym (pairs_value arg_of to_arg arg_words b o.layout.words at h e))

  module _ {r : Bool} where
    pub shape_holds : r ≡ true → r ≡ valid_members Args o.counts.strings (pairs_at (words b) c (at + 1)) →
        Ok tt ≡ verdict_of (shape_faults (module_in (first_words b o.layout.words)) (value_of [] (list_of arg_of (first_words b o.layout.words) at)))
    unfolding shape_faults verdict_of
    shape_holds i j = sym (ap (λ t. verdict_of (unless t BadCallShape)) (sym shape_valid ∙ sym j ∙ i))

    pub shape_broken : r ≡ false → r ≡ valid_members Args o.counts.strings (pairs_at (words b) c (at + 1)) →
        Err BadCallShape ≡ verdict_of (shape_faults (module_in (first_words b o.layout.words)) (value_of [] (list_of arg_of (first_words b o.layout.words) at)))
    unfolding shape_faults verdict_of
    shape_broken i j = sym (ap (λ t. verdict_of (unless t BadCallShape)) (sym shape_valid ∙ sym j ∙ i))

-- ── all call shapes of a function ──

-- count - i are ahead, from p on
pub record Shaping (b : List ℕ) (o : Opened) (w₀ : List ℕ) (at : ℕ) (w : List ℕ) (count i p : ℕ) : Type 0 where
  pub judges : Judges (list_of arg_of) (shape_faults (module_in (first_words b o.layout.words))) (first_words b o.layout.words) at
      (count - i) p
  pub kept : w ≡ w₀

module _ (b : List ℕ) (o : Opened) (w₀ : List ℕ) (at : ℕ) where
  pub shaping_start : {c : ℕ} → Whole (list_of (list_of arg_of) (first_words b o.layout.words) at) → c ≡ get_or (words b) at 0 →
      Shaping b o w₀ at w₀ c 0 (at + 1)
  shaping_start {c} h e =
      let z : c - 0 ≡ c = omega arith in
      record {
        judges = rw z (judges_start (list_of arg_of)
            (shape_faults (module_in (first_words b o.layout.words))) b o.layout.words at h e);
        kept = refl;
      }

  module _ (w : List ℕ) (count i p : ℕ) (x : Shaping b o w₀ at w count i p) where
    pub shaping_ready : Ready (first_words b o.layout.words) w₀ o → Ready (first_words b o.layout.words) w o
    shaping_ready r = subst (λ u. Ready (first_words b o.layout.words) u o) (sym x.kept) r

    pub shaping_end : count ≤ i → Ok tt
        ≡ verdict_of (list_faults (shape_faults (module_in (first_words b o.layout.words)))
        (list_of (list_of arg_of) (first_words b o.layout.words) at))
    shaping_end h = judges_end (list_of arg_of) (shape_faults (module_in (first_words b o.layout.words)))
        (first_words b o.layout.words) at (count - i) p x.judges (omega arith)

    module _ (h : i < count) where
      pub shaping_whole : Whole (list_of arg_of (first_words b o.layout.words) p)
      shaping_whole = judges_whole (list_of arg_of) (shape_faults (module_in (first_words b o.layout.words)))
          (first_words b o.layout.words) at (count - i) p x.judges (omega arith)

      pub shaping_stop : {r : Verdict} (k : LoadErrorKind) → r ≡ Err k → r ≡ verdict_of (shape_faults (module_in (first_words b o.layout.words)) (value_of [] (list_of arg_of (first_words b o.layout.words) p))) →
          Err k ≡ verdict_of (list_faults (shape_faults (module_in (first_words b o.layout.words))) (list_of (list_of arg_of) (first_words b o.layout.words) at))
      shaping_stop k e f = judges_stop (list_of arg_of) (shape_faults (module_in (first_words b o.layout.words)))
          (first_words b o.layout.words) at (count - i) p x.judges (omega arith) [] k e f

      pub shaping_next : {r : Verdict} {u : List ℕ} {c : ℕ} → r ≡ Ok tt → r ≡ verdict_of (shape_faults (module_in (first_words b o.layout.words)) (value_of [] (list_of arg_of (first_words b o.layout.words) p))) →
          u ≡ w → c ≡ get_or (words b) p 0 → Shaping b o w₀ at u count (i + 1) (p + (1 + 2 * c))
      shaping_next {c = c} e f g k = let z : count - (i + 1) ≡ count - i - 1 = omega arith in record {
        judges = rw z (judges_next (list_of arg_of) (shape_faults (module_in (first_words b o.layout.words)))
            (first_words b o.layout.words) at (count - i) p x.judges (omega arith) [] (p + (1 + 2 * c)) e f
            (list_ends arg_of to_arg arg_words b o.layout.words p k));
        kept = g ∙ x.kept;
      }

-- ── a parameter list ──

module _ (b w : List ℕ) (o : Opened) (x : Ready (first_words b o.layout.words) w o) (at : ℕ) (h : Whole (param_list (first_words b o.layout.words) at))
    (pat : ℕ) (g : Whole (list_of value_type (first_words b o.layout.words) pat)) {k : ℕ} (e : k ≡ get_or (words b) at 0) where
  pub params_absent : k ≡ 0 → Ok tt ≡ verdict_of (param_list_faults (module_in (first_words b o.layout.words)) (value_of None (param_list (first_words b o.layout.words) at)) (value_of [] (list_of value_type (first_words b o.layout.words) pat)))
  unfolding param_list_faults verdict_of
  params_absent z = sym (ap (λ l. verdict_of (param_list_faults (module_in (first_words b o.layout.words)) l (value_of [] (list_of value_type (first_words b o.layout.words) pat)))) (no_params b o.layout.words at h e z))

  module _ (z : k ≡ 0 → ⊥) {c : ℕ} (f : c ≡ get_or (words b) (at + 1) 0) {d : ℕ} (i : d ≡ get_or (words b) pat 0) where
    pub params_inside : at + 2 + 2 * c ≤ o.layout.words
    params_inside = omega (arith, pairs_inside param_of to_param param_words b o.layout.words (at + 1) (params_whole b o.layout.words at h e z) f)

    pub types_inside : pat + 1 + d ≤ o.layout.words
    types_inside = values_inside b o.layout.words pat g i

    opened : verdict_of (param_list_faults (module_in (first_words b o.layout.words)) (value_of None (param_list (first_words b o.layout.words) at)) (value_of [] (list_of value_type (first_words b o.layout.words) pat)))
        ≡ verdict_of (unless (valid_params (map to_param (pairs_at (words b) c (at + 2))) && fits (module_in (first_words b o.layout.words)) (map to_param (pairs_at (words b) c (at + 2))) (values_at (words b) d (pat + 1))) BadParamList)
    unfolding param_list_faults
    opened =
        let y : at + 1 + 1 ≡ at + 2 = omega arith in
        let m = module_in (first_words b o.layout.words) in
        ap₂ (λ l v. verdict_of (param_list_faults m l v))
        (params_some b o.layout.words at h e z
        ∙ ap Some (pairs_value param_of to_param param_words b o.layout.words (at + 1) (params_whole b o.layout.words at h e z) f ∙ ap (λ p. map to_param (pairs_at (words b) c p)) y))
        (values_value b o.layout.words pat g i)

    pub params_count : (c ≡ d → ⊥) →
        Err BadParamList ≡ verdict_of (param_list_faults (module_in (first_words b o.layout.words)) (value_of None (param_list (first_words b o.layout.words) at)) (value_of [] (list_of value_type (first_words b o.layout.words) pat)))
    unfolding verdict_of
    params_count n = sym (opened ∙ ap (λ t. verdict_of (unless t BadParamList)) (other_count (module_in (first_words b o.layout.words)) (words b) c d (at + 2) (pat + 1) n))

    module _ (j : c ≡ d) {r : Bool} (s : r ≡ references_fit (module_in (first_words b o.layout.words)) (words b) c (at + 2) (pat + 1)) where
      judged : verdict_of (param_list_faults (module_in (first_words b o.layout.words)) (value_of None (param_list (first_words b o.layout.words) at)) (value_of [] (list_of value_type (first_words b o.layout.words) pat)))
          ≡ verdict_of (unless (r && valid_members Params o.counts.strings (pairs_at (words b) c (at + 2))) BadParamList)
      judged =
          let m = module_in (first_words b o.layout.words) in
          opened ∙ ap (λ t. verdict_of (unless t BadParamList))
          (ap (λ n. valid_params (map to_param (pairs_at (words b) c (at + 2))) && fits m (map to_param (pairs_at (words b) c (at + 2))) (values_at (words b) n (pat + 1))) (sym j)
          ∙ valid_params_lem m (words b) c (at + 2) (pat + 1)
          ∙ ap₂ (λ t n. t && valid_members Params n (pairs_at (words b) c (at + 2))) (sym s) (sym (count_strings (first_words b o.layout.words) o x.opens)))

      pub params_reference : r ≡ false →
          Err BadParamList ≡ verdict_of (param_list_faults (module_in (first_words b o.layout.words)) (value_of None (param_list (first_words b o.layout.words) at)) (value_of [] (list_of value_type (first_words b o.layout.words) pat)))
      unfolding verdict_of
      params_reference q = sym (judged ∙ ap (λ t. verdict_of (unless (t && valid_members Params o.counts.strings (pairs_at (words b) c (at + 2))) BadParamList)) q)

      module _ (q : r ≡ true) {y : Bool} (v : y ≡ valid_members Params o.counts.strings (pairs_at (words b) c (at + 2))) where
        pub params_hold : y ≡ true →
            Ok tt ≡ verdict_of (param_list_faults (module_in (first_words b o.layout.words)) (value_of None (param_list (first_words b o.layout.words) at)) (value_of [] (list_of value_type (first_words b o.layout.words) pat)))
        unfolding verdict_of
        params_hold u = sym (judged ∙ ap₂ (λ t l. verdict_of (unless (t && l) BadParamList)) q (sym v ∙ u))

        pub params_invalid : y ≡ false →
            Err BadParamList ≡ verdict_of (param_list_faults (module_in (first_words b o.layout.words)) (value_of None (param_list (first_words b o.layout.words) at)) (value_of [] (list_of value_type (first_words b o.layout.words) pat)))
        unfolding verdict_of
        params_invalid u = sym (judged ∙ ap₂ (λ t l. verdict_of (unless (t && l) BadParamList)) q (sym v ∙ u))
