-- Verdicts one after the other: the first that is broken.
use Rattle.std.specs.Prelude.{ℕ, suc, ◌+◌, ◌<◌, ◌≤◌, ◌≡◌, refl, List, [], ◌∷◌, ◌++◌, map}
use Rattle.std.proofs.Common.{sym, ap, ◌∙◌, arith, add-one, lt-ltb, le-ltb}
use Rattle.error.specs.declared.What.{What}
use Rattle.error.specs.declared.LoadErrorKind.{LoadErrorKind}
use Rattle.error.specs.declared.LoadErrorKind.TheVariants.{OutOfRange}
use Rattle.error.specs.Verdict.{Verdict}
use Rattle.std.specs.Prelude.{Err, Ok}
use Rattle.error.specs.declared.LoadError.{LoadError}
use Rattle.error.specs.Verdict.{Judged}
use Rattle.std.specs.Prelude.{Err, Ok}
use Rattle.error.specs.Answer.{in_module, in_function, at_position, unless, in_range}
use Rattle.error.specs.Verdict.{verdict_of, judged_of, placed}

pub none_broken : (xs : List LoadErrorKind) {r : Verdict} → r ≡ Ok tt → r ≡ verdict_of xs → xs ≡ []
unfolding verdict_of
none_broken [] e k = refl
none_broken (x ∷ xs) e k = let z : ◌≡◌ {A = ℕ} 0 1 = cc in absurd (omega arith)

-- the first rule holds: the verdict is that of the rest
pub verdict_then : (xs ys : List LoadErrorKind) {r x : Verdict} → r ≡ Ok tt → r ≡ verdict_of xs → x ≡ verdict_of ys → x ≡ verdict_of (xs ++ ys)
verdict_then xs ys e k h = h ∙ sym (ap (λ l. verdict_of (l ++ ys)) (none_broken xs e k))

-- the first rule is broken: that is the verdict
pub verdict_stop : (xs ys : List LoadErrorKind) {r : Verdict} (b : LoadErrorKind) → r ≡ Err b → r ≡ verdict_of xs → Err b ≡ verdict_of (xs ++ ys)
unfolding verdict_of
verdict_stop [] ys b e k = let z : ◌≡◌ {A = ℕ} 0 1 = cc in absurd (omega arith)
verdict_stop (x ∷ xs) ys b e k = sym e ∙ k

-- ── a number below n, or not ──
pub range_holds : (what : What) (n i : ℕ) → i < n → Ok tt ≡ verdict_of (in_range what n i)
unfolding verdict_of
range_holds what n i h = ap (λ b. verdict_of (unless b (OutOfRange what i))) (sym (lt-ltb i n h))

pub range_broken : (what : What) (n i : ℕ) → n ≤ i → Err (OutOfRange what i) ≡ verdict_of (in_range what n i)
unfolding verdict_of
range_broken what n i h = ap (λ b. verdict_of (unless b (OutOfRange what i))) (sym (le-ltb i n h))

pub ruleset ranges = (range_holds, range_broken)

-- ── groups ──

pub none_refused : (xs : List LoadError) {r : Judged} → r ≡ Ok tt → r ≡ judged_of xs → xs ≡ []
unfolding judged_of
none_refused [] e k = refl
none_refused (x ∷ xs) e k = let z : ◌≡◌ {A = ℕ} 0 1 = cc in absurd (omega arith)

pub judged_then : (xs ys : List LoadError) {r x : Judged} → r ≡ Ok tt → r ≡ judged_of xs → x ≡ judged_of ys → x ≡ judged_of (xs ++ ys)
judged_then xs ys e k h = h ∙ sym (ap (λ l. judged_of (l ++ ys)) (none_refused xs e k))

pub judged_stop : (xs ys : List LoadError) {r : Judged} (b : LoadError) → r ≡ Err b → r ≡ judged_of xs → Err b ≡ judged_of (xs ++ ys)
unfolding judged_of
judged_stop [] ys b e k = let z : ◌≡◌ {A = ℕ} 0 1 = cc in absurd (omega arith)
judged_stop (x ∷ xs) ys b e k = sym e ∙ k

-- ── the place of a verdict ──

pub placed_holds : (place : LoadErrorKind → LoadError) {v : Verdict} → v ≡ Ok tt → Ok tt ≡ placed place v
unfolding placed
placed_holds place e = sym (ap (placed place) e)

pub placed_module : {v : Verdict} {k : LoadErrorKind} → v ≡ Err k → Err (record { kind = k; func = 0; pc = 0 }) ≡ placed in_module v
unfolding placed
placed_module e = sym (ap (placed in_module) e)

pub placed_function : (f : ℕ) {v : Verdict} {k : LoadErrorKind} → v ≡ Err k → Err (record { kind = k; func = f + 1; pc = 0 }) ≡ placed (in_function f) v
unfolding placed
placed_function f {v} {k} e = ap (λ (x : ℕ). Err (record { kind = k; func = x; pc = 0 })) (add-one f) ∙ sym (ap (placed (in_function f)) e)

pub placed_position : (f p : ℕ) {v : Verdict} {k : LoadErrorKind} → v ≡ Err k → Err (record { kind = k; func = f + 1; pc = p + 1 }) ≡ placed (at_position f p) v
unfolding placed
placed_position f p {v} {k} e =
    ap (λ (x : ℕ). Err (record { kind = k; func = x; pc = p + 1 })) (add-one f)
    ∙ ap (λ (x : ℕ). Err (record { kind = k; func = suc f; pc = x })) (add-one p)
    ∙ sym (ap (placed (at_position f p)) e)

pub ruleset placing = (placed_holds, placed_module, placed_function, placed_position)

-- a verdict on a rule's faults, placed, is that on the faults with their place
pub placed_faults_lem : (place : LoadErrorKind → LoadError) (ks : List LoadErrorKind) {v : Verdict} {r : Judged} → v ≡ verdict_of ks → r ≡ placed place v → r ≡ judged_of (map place ks)
unfolding placed verdict_of judged_of
placed_faults_lem place ks e k = k ∙ ap (placed place) e ∙ go ks
  where
    go : (ks : List LoadErrorKind) → placed place (verdict_of ks) ≡ judged_of (map place ks)
    go [] = refl
    go (k ∷ ks) = refl
