-- A loop by number through a list that stops at the first member which breaks a rule: nothing is broken before member i.
use Rattle.std.specs.Prelude.{ℕ, zero, suc, ◌+◌, ◌≤◌, ◌<◌, ◌≡◌, refl, List, [], ◌∷◌, ◌++◌, length, get_or, drop}
use Rattle.std.proofs.Math.Path.{sym}
use Rattle.std.proofs.Common.{ap, ◌∙◌, arith, add-one}
use Rattle.lists.specs.Lists.{concat_map_from}
use Rattle.error.specs.declared.LoadErrorKind.{LoadErrorKind}
use Rattle.error.specs.declared.LoadError.{LoadError}
use Rattle.error.specs.Verdict.{Verdict}
use Rattle.std.specs.Prelude.{Err, Ok}
use Rattle.error.specs.Verdict.{Judged}
use Rattle.std.specs.Prelude.{Err, Ok}
use Rattle.error.specs.Verdict.{verdict_of, judged_of}
use Rattle.error.specs.VerdictLaws.{none_broken, verdict_stop, none_refused, judged_stop}

-- what is broken at all is what is broken from member i on
pub record Clears {A B : Type 0} (faults : ℕ → A → List B) (xs : List A) (i : ℕ) : Type 0 where
  pub same : concat_map_from 0 faults xs ≡ concat_map_from i faults (drop i xs)

drop_first : {A : Type 0} (d : A) (xs : List A) (i : ℕ) → i < length xs → drop i xs ≡ get_or xs i d ∷ drop (suc i) xs
drop_first d [] i h = absurd (omega arith)
drop_first d (x ∷ xs) zero h = refl
drop_first d (x ∷ xs) (suc i) h = drop_first d xs i (omega arith)

drop_past : {A : Type 0} (xs : List A) (i : ℕ) → length xs ≤ i → drop i xs ≡ []
drop_past [] zero h = refl
drop_past [] (suc i) h = refl
drop_past (x ∷ xs) zero h = absurd (omega arith)
drop_past (x ∷ xs) (suc i) h = drop_past xs i (omega arith)

module _ {A B : Type 0} (faults : ℕ → A → List B) (xs : List A) where
  pub clears_start : Clears faults xs 0
  clears_start = record { same = refl }

  module _ (i : ℕ) (x : Clears faults xs i) where
    -- first what is broken in member i
    pub clears_split : (d : A) → i < length xs → concat_map_from 0 faults xs ≡ faults i (get_or xs i d) ++ concat_map_from (suc i) faults (drop (suc i) xs)
    clears_split d h = x.same ∙ ap (concat_map_from i faults) (drop_first d xs i h)

    pub clears_next : (d : A) → i < length xs → faults i (get_or xs i d) ≡ [] → Clears faults xs (i + 1)
    clears_next d h e = record {
      same = clears_split d h ∙ ap (λ l. l ++ concat_map_from (suc i) faults (drop (suc i) xs)) e ∙ ap (λ k. concat_map_from k faults (drop k xs)) (sym (add-one i));
    }

    pub clears_end : length xs ≤ i → concat_map_from 0 faults xs ≡ []
    clears_end h = x.same ∙ ap (concat_map_from i faults) (drop_past xs i h)

-- ── with the verdicts of code ──

module _ {A : Type 0} (faults : ℕ → A → List LoadErrorKind) (xs : List A) (i : ℕ) (x : Clears faults xs i) where
  pub clears_holds : length xs ≤ i → Ok tt ≡ verdict_of (concat_map_from 0 faults xs)
  unfolding verdict_of
  clears_holds h = sym (ap verdict_of (clears_end faults xs i x h))

  module _ (d : A) {r : Verdict} (h : i < length xs) where
    pub clears_pass : r ≡ Ok tt → r ≡ verdict_of (faults i (get_or xs i d)) → Clears faults xs (i + 1)
    clears_pass e k = clears_next faults xs i x d h (none_broken (faults i (get_or xs i d)) e k)

    pub clears_stop : {b : LoadErrorKind} → r ≡ Err b → r ≡ verdict_of (faults i (get_or xs i d)) → Err b ≡ verdict_of (concat_map_from 0 faults xs)
    clears_stop {b} e k =
        verdict_stop (faults i (get_or xs i d)) (concat_map_from (suc i) faults (drop (suc i) xs)) b e k ∙ sym (ap verdict_of (clears_split faults xs i x d h))

-- ── with their places ──

module _ {A : Type 0} (faults : ℕ → A → List LoadError) (xs : List A) (i : ℕ) (x : Clears faults xs i) where
  pub clears_passed : length xs ≤ i → Ok tt ≡ judged_of (concat_map_from 0 faults xs)
  unfolding judged_of
  clears_passed h = sym (ap judged_of (clears_end faults xs i x h))

  module _ (d : A) {r : Judged} (h : i < length xs) where
    pub clears_on : r ≡ Ok tt → r ≡ judged_of (faults i (get_or xs i d)) → Clears faults xs (i + 1)
    clears_on e k = clears_next faults xs i x d h (none_refused (faults i (get_or xs i d)) e k)

    pub clears_refused : {b : LoadError} → r ≡ Err b → r ≡ judged_of (faults i (get_or xs i d)) → Err b ≡ judged_of (concat_map_from 0 faults xs)
    clears_refused {b} e k =
        judged_stop (faults i (get_or xs i d)) (concat_map_from (suc i) faults (drop (suc i) xs)) b e k ∙ sym (ap judged_of (clears_split faults xs i x d h))
