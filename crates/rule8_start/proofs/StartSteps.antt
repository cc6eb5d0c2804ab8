-- The start function judged step by step.
use Prim.Native.Nat.{ℕ, ◌+◌, ◌-◌, ◌*◌, ◌<◌}
use mathlib.Core.Path.{◌≡◌, refl, sym, ap, ap₂, ◌∙◌}
use mathlib.Core.List.{List, [], ◌++◌, map}
use mathlib.Core.Bool.{Bool, true, false, ◌&&◌}
use native.Mathlib.Omega.{arith}
use native.Mathlib.Numerals.{add-one}
use lib.Dec.{eqb, ltb}
use lib.ListN.{length, get_or}
use borrow.Author.Tests.{eq-eqb, ne_eqb, lt-ltb, ltb-true}
use Rattle.blocks.specs.Blocks.{words}
use Rattle.blocks.specs.Frame.{first_words}
use Rattle.blocks.proofs.FirstWords.{length_first_words, first_words_at}
use Rattle.error.specs.declared.What.{What}
use Rattle.error.specs.declared.What.TheVariants.{Functions}
use Rattle.error.specs.declared.LoadErrorKind.{LoadErrorKind}
use Rattle.error.specs.declared.LoadErrorKind.TheVariants.{OutOfRange, BadStart, CalleeHasCaptures}
use Rattle.error.specs.Verdict.{Verdict}
use Rattle.std.specs.Prelude.{Err, Ok}
use Rattle.error.specs.Verdict.{Judged}
use Rattle.std.specs.Prelude.{Ok}
use Rattle.error.specs.Answer.{in_module, unless, in_range}
use Rattle.error.specs.Verdict.{verdict_of, judged_of, placed}
use Rattle.error.specs.VerdictLaws.{none_broken, verdict_stop, placed_faults_lem}
use Rattle.reader.specs.ReaderLaws.{stands_in, stands_at, word_codes}
use Rattle.imports.specs.Params.{sig_params, sig_results}
use Rattle.code.specs.Callee.{no_func, func_at, no_captures}
use Rattle.hooks.specs.Hooks.{is_start, start_at_faults, start_faults}
use Rattle.open_layout.specs.Opened.{module_in}
use Rattle.open_sheet.specs.declared.Opened.{Opened}
use Rattle.open_sheet.specs.Ready.{Ready, pos_at, Captured}
use Rattle.open_sheet.specs.ReadyLaws.{count_funcs, funcs_in}
use Rattle.open_sheet.specs.MemberLaws.{func_sig}

-- ── a function by number ──

module _ (b w : List ℕ) (o : Opened) (x : Ready (first_words b o.layout.words) w o) (f : ℕ) (h : f < o.counts.funcs) where
  abbrev ws : List ℕ
  ws = first_words b o.layout.words

  inside : f < length (module_in ws).funcs
  inside = funcs_in ws w o x f h

  module _ {p s : ℕ} (e : p ≡ pos_at w o.index.funcs f) (k : s ≡ get_or (words b) p 0) where
    signed : s ≡ (func_at (module_in ws) f).sig
    unfolding func_at
    signed = func_sig b w o x f h no_func e k

    module _ {c : ℕ} (i : c ≡ length (sig_params (module_in ws) s)) where
      pub start_both : {d : ℕ} → c ≡ 0 → d ≡ length (sig_results (module_in ws) s) → eqb d 0 ≡ is_start (module_in ws) (func_at (module_in ws) f)
      unfolding is_start
      start_both {d} z j =
          let y : length (sig_params (module_in ws) (func_at (module_in ws) f).sig) ≡ 0 = ap (λ t. length (sig_params (module_in ws) t)) (sym signed) ∙ sym i ∙ z in
          ap (λ t. eqb t 0) (j ∙ ap (λ t. length (sig_results (module_in ws) t)) signed)
          ∙ sym (ap (λ t. t && eqb (length (sig_results (module_in ws) (func_at (module_in ws) f).sig)) 0) (eq-eqb _ 0 y))

      pub start_takes : (c ≡ 0 → ⊥) → false ≡ is_start (module_in ws) (func_at (module_in ws) f)
      unfolding is_start
      start_takes z =
          let y : c ≡ length (sig_params (module_in ws) (func_at (module_in ws) f).sig) = i
          ∙ ap (λ t. length (sig_params (module_in ws) t)) signed in
          sym (ap (λ t. t && eqb (length (sig_results (module_in ws) (func_at (module_in ws) f).sig)) 0) (ap (λ t. eqb t 0) (sym y)
          ∙ ne_eqb c 0 z))

  -- ── what is broken in it ──

  module _ {s : Bool} (e : s ≡ is_start (module_in ws) (func_at (module_in ws) f)) where
    faults : (t u : Bool) {v : Verdict} → is_start (module_in ws) (func_at (module_in ws) f) ≡ t → no_captures (func_at (module_in ws) f) ≡ u
        → v ≡ verdict_of (unless t BadStart ++ unless u CalleeHasCaptures) → v ≡ verdict_of (start_at_faults (module_in ws) (f + 1))
    faults t u y z k =
        k ∙ ap₂ (λ i j. verdict_of (unless i BadStart ++ unless j CalleeHasCaptures)) (sym y) (sym z)
        ∙ ap (λ i. verdict_of (unless i (OutOfRange Functions f) ++ unless (is_start (module_in ws) (func_at (module_in ws) f)) BadStart
        ++ unless (no_captures (func_at (module_in ws) f)) CalleeHasCaptures))
        (sym (lt-ltb f (length (module_in ws).funcs) inside))
        ∙ opened
      where
        opened : verdict_of (in_range Functions (length (module_in ws).funcs) f
            ++ unless (is_start (module_in ws) (func_at (module_in ws) f)) BadStart
            ++ unless (no_captures (func_at (module_in ws) f)) CalleeHasCaptures)
            ≡ verdict_of (start_at_faults (module_in ws) (f + 1))
        opened = unfold start_at_faults in ap (λ i. verdict_of (start_at_faults (module_in ws) i)) (sym (add-one f))

    pub bad_start : s ≡ false → Err BadStart ≡ verdict_of (start_at_faults (module_in ws) (f + 1))
    unfolding verdict_of
    bad_start z = faults false (no_captures (func_at (module_in ws) f)) (sym e ∙ z) refl refl

    module _ {c : ℕ} (y : Captured ws w o) (k : c ≡ get_or w (4 * o.layout.words + f) 0) where
      counted : c ≡ length (func_at (module_in ws) f).captures
      unfolding func_at
      counted = k ∙ y.captures f no_func inside

      pub start_holds : s ≡ true → c ≡ 0 → Ok tt ≡ verdict_of (start_at_faults (module_in ws) (f + 1))
      unfolding verdict_of no_captures
      start_holds z u = faults true true (sym e ∙ z) (ap (λ i. eqb i 0) (sym counted) ∙ eq-eqb c 0 u) refl

      pub start_captures : s ≡ true → (c ≡ 0 → ⊥) → Err CalleeHasCaptures ≡ verdict_of (start_at_faults (module_in ws) (f + 1))
      unfolding verdict_of no_captures
      start_captures z u = faults true false (sym e ∙ z) (ap (λ i. eqb i 0) (sym counted) ∙ ne_eqb c 0 u) refl

-- ── its number ──

pub range_below : (what : What) (n i : ℕ) {r : Verdict} → r ≡ verdict_of (in_range what n i) → r ≡ Ok tt → i < n
range_below what n i e h = go (ltb i n) refl (none_broken (in_range what n i) h e)
  where
    go : (t : Bool) → ltb i n ≡ t → unless t (OutOfRange what i) ≡ [] → i < n
    go true k z = ltb-true i n k
    go false k z = cc

pub start_missing : (ws w : List ℕ) (o : Opened) (f : ℕ) → Ready ws w o → {r : Verdict} → r ≡ verdict_of (in_range Functions o.counts.funcs f) →
    {b : LoadErrorKind} → r ≡ Err b → Err b ≡ verdict_of (start_at_faults (module_in ws) (f + 1))
unfolding start_at_faults
start_missing ws w o f x e {b} h =
    let m = module_in ws in
    let xs = in_range Functions (length m.funcs) f in
    let ys = unless (is_start m (func_at m f)) BadStart in
    let zs = unless (no_captures (func_at m f)) CalleeHasCaptures in
    let k : Err b ≡ verdict_of xs = sym h ∙ e ∙ ap (λ (n : ℕ). verdict_of (in_range Functions n f)) (count_funcs ws o x.opens) in
    verdict_stop (xs ++ ys) zs b refl (verdict_stop xs ys b refl k)
    ∙ ap (λ i. verdict_of (start_at_faults m i)) (sym (add-one f))

-- ── the start word ──

module _ (b w : List ℕ) (o : Opened) (x : Ready (first_words b o.layout.words) w o) {s : ℕ} (e : s ≡ get_or (words b) o.layout.start 0) where
  start_word : (module_in (first_words b o.layout.words)).start+ ≡ s
  start_word =
      let ws = first_words b o.layout.words in
      let st = ((word_codes ws).found o.layout.start _ _ x.opens.located.start).stands in
      let l : o.layout.start < o.layout.words = omega (arith, stands_in ws st, st.end, length_first_words b o.layout.words) in
      let z : o.layout.start + 0 ≡ o.layout.start = omega arith in
      sym (stands_at ws st 0 (omega arith)) ∙ ap (λ i. get_or ws i 0) z ∙ first_words_at b o.layout.words o.layout.start l ∙ sym e

  pub no_start : s ≡ 0 → Ok tt ≡ judged_of (start_faults (module_in (first_words b o.layout.words)))
  unfolding start_faults start_at_faults judged_of
  no_start z = sym (ap (λ i. judged_of (map in_module (start_at_faults (module_in (first_words b o.layout.words)) i))) (start_word ∙ z))

  pub start_judged : {v : Verdict} {r : Judged} → (s ≡ 0 → ⊥) →
      v ≡ verdict_of (start_at_faults (module_in (first_words b o.layout.words)) (s - 1 + 1))
      → r ≡ placed in_module v → r ≡ judged_of (start_faults (module_in (first_words b o.layout.words)))
  unfolding start_faults
  start_judged z k l =
      let y : s - 1 + 1 ≡ (module_in (first_words b o.layout.words)).start+ = omega (arith, start_word) in
      placed_faults_lem in_module (start_at_faults (module_in (first_words b o.layout.words)) (module_in (first_words b o.layout.words)).start+)
      (k ∙ ap (λ i. verdict_of (start_at_faults (module_in (first_words b o.layout.words)) i)) y) l
