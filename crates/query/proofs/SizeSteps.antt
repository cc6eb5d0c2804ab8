-- The span of a type, and what is read of it.
use Prim.Native.Nat.{ℕ, ◌+◌, ◌-◌, ◌*◌, ◌≤◌, ◌<◌}
use mathlib.Core.Path.{◌≡◌, refl, sym, ap, ap₂, ◌∙◌}
use mathlib.Core.List.{List}
use mathlib.Core.Bool.{Bool, true, false, cond}
use native.Mathlib.Omega.{arith}
use lib.Dec.{ltb}
use lib.ListN.{length, get_or}
use borrow.Author.Tests.{ltb-true, lt-ltb, le-ltb}
use Rattle.std.specs.Prelude.{Option, None, Some, Result, Err, Ok}
use Rattle.descends.specs.Descends.{spans_start, span_count, is_linked, length_in, if_known}
use Rattle.descends.proofs.DescendsLaws.{linked, pre_is, post_is, length_is}
use Rattle.descends.specs.declared.QueryError.{QueryError}
use Rattle.descends.specs.declared.QueryError.TheVariants.{NotLinked}
use Rattle.descends.specs.Lengths.{chain_length_in}
use Rattle.descends.specs.Sizes.{width_in, size_in}
use Rattle.query.specs.Spans.{span_of}
use Rattle.query.proofs.QuerySteps.{spans_inside, start_inside, header_inside, asked}

abbrev span_from : Bool → Bool → ℕ → Result (Option ℕ) QueryError
span_from b k p = cond b (Ok (cond k (Some p) None)) (Err NotLinked)

-- ── where it stands ──

module _ (ws : List ℕ) (t : ℕ) {l : Bool} (e : l ≡ is_linked ws) where
  pub span_unlinked : l ≡ false → Err NotLinked ≡ span_of ws t
  unfolding span_of
  span_unlinked h = ap (λ b. span_from b (ltb t (span_count ws)) (spans_start ws + 1 + 3 * t)) (sym h ∙ e)

  module _ (h : l ≡ true) {start count : ℕ} (s : start ≡ get_or ws 9 0) (c : count ≡ get_or ws start 0) where
    pub span_unknown : count ≤ t → Ok None ≡ span_of ws t
    unfolding span_of
    span_unknown k =
        let i = spans_inside ws (asked ws e h) s c in
        ap₂ (λ b n. span_from b n (spans_start ws + 1 + 3 * t)) (sym h ∙ e) (sym (le-ltb t (span_count ws) (omega (arith, i.1.0))))

    pub span_known : t < count → Ok (Some (start + 1 + 3 * t)) ≡ span_of ws t
    unfolding span_of
    span_known k =
        let i = spans_inside ws (asked ws e h) s c in
        ap (λ p. span_from true true (p + 1 + 3 * t)) i.0
        ∙ ap₂ (λ b n. span_from b n (spans_start ws + 1 + 3 * t)) (sym h ∙ e) (sym (lt-ltb t (span_count ws) (omega (arith, i.1.0))))

    pub span_fits : t < count → start + 1 + 3 * t < length ws
    span_fits k = let i = spans_inside ws (asked ws e h) s c in omega (arith, i.1.1)

pub ruleset spanning = (asked, header_inside, start_inside, span_unlinked, span_unknown, span_known, span_fits)

-- ── what is read of it ──

found : {C : Type 0} (b k : Bool) (p : ℕ) {own : ℕ} → span_from b k p ≡ Ok (Some own) → (b ≡ true → k ≡ true → own ≡ p → C) → C
found true true p e f = f refl refl cc
found true false p e f = let z : ◌≡◌ {A = ℕ} 0 1 = cc in absurd (omega arith)
found false k p e f = let z : ◌≡◌ {A = ℕ} 0 1 = cc in absurd (omega arith)

known_answer : (b k : Bool) (p n : ℕ) {own : ℕ} → span_from b k p ≡ Ok (Some own) → Ok n ≡ cond b (Ok (cond k n 0)) (Err NotLinked)
known_answer true true p n e = refl
known_answer true false p n e = let z : ◌≡◌ {A = ℕ} 0 1 = cc in absurd (omega arith)
known_answer false k p n e = let z : ◌≡◌ {A = ℕ} 0 1 = cc in absurd (omega arith)

unknown_answer : (b k : Bool) (p n : ℕ) → span_from b k p ≡ Ok None → Ok 0 ≡ cond b (Ok (cond k n 0)) (Err NotLinked)
unknown_answer true true p n e = let z : ◌≡◌ {A = ℕ} 0 1 = cc in absurd (omega arith)
unknown_answer true false p n e = refl
unknown_answer false k p n e = let z : ◌≡◌ {A = ℕ} 0 1 = cc in absurd (omega arith)

refused_answer : (b k : Bool) (p n : ℕ) {r : QueryError} → span_from b k p ≡ Err r → Err r ≡ cond b (Ok (cond k n 0)) (Err NotLinked)
refused_answer true k p n e = let z : ◌≡◌ {A = ℕ} 0 1 = cc in absurd (omega arith)
refused_answer false k p n {r} e = let z : NotLinked ≡ r = cc in ap Err (sym z)

module _ (ws : List ℕ) (t : ℕ) {x : Result (Option ℕ) QueryError} (e : x ≡ span_of ws t) where
  abbrev known : Bool
  known = ltb t (span_count ws)

  abbrev place : ℕ
  place = spans_start ws + 1 + 3 * t

  opened : span_of ws t ≡ span_from (is_linked ws) known place
  unfolding span_of
  opened = refl

  module _ {v : Option ℕ} (q : x ≡ Ok v) where
    from_here : span_from (is_linked ws) known place ≡ Ok v
    from_here = sym opened ∙ sym e ∙ q

    module _ {own : ℕ} (m : v ≡ Some own) where
      here : own ≡ place
      here = found (is_linked ws) known place (from_here ∙ ap Ok m) λ h k i. i

      pub span_inside : own + 2 < length ws
      span_inside = found (is_linked ws) known place (from_here ∙ ap Ok m) λ h k i.
          let n = ltb-true t (span_count ws) k in omega (arith, i, n, (linked ws h).room)

      answered : (n : ℕ) → Ok n ≡ cond (is_linked ws) (Ok (if_known ws t n)) (Err NotLinked)
      unfolding if_known
      answered n = known_answer (is_linked ws) known place n (from_here ∙ ap Ok m)

      pub sized : {pre post : ℕ} → pre ≡ get_or ws own 0 → post ≡ get_or ws (own + 1) 0 → Ok (post - pre) ≡ size_in ws t
      unfolding size_in width_in
      sized {pre} {post} i j =
          let a = pre_is ws t refl (i ∙ ap (λ k. get_or ws k 0) here) in
          let b = post_is ws t refl (j ∙ ap (λ k. get_or ws (k + 1) 0) here) in
          ap Ok (ap₂ (λ x y. x - y) b a) ∙ answered (width_in ws t)

      pub measured : {n : ℕ} → n ≡ get_or ws (own + 2) 0 → Ok n ≡ chain_length_in ws t
      unfolding chain_length_in
      measured i =
          let z : own + 2 ≡ spans_start ws + 3 + 3 * t = omega (arith, here) in
          ap Ok (length_is ws t refl (i ∙ ap (λ k. get_or ws k 0) z)) ∙ answered (length_in ws t)

    module _ (m : v ≡ None) where
      pub size_unknown : Ok 0 ≡ size_in ws t
      unfolding size_in if_known
      size_unknown = unknown_answer (is_linked ws) known place (width_in ws t) (from_here ∙ ap Ok m)

      pub length_unknown : Ok 0 ≡ chain_length_in ws t
      unfolding chain_length_in if_known
      length_unknown = unknown_answer (is_linked ws) known place (length_in ws t) (from_here ∙ ap Ok m)

  module _ {r : QueryError} (q : x ≡ Err r) where
    pub size_refused : Err r ≡ size_in ws t
    unfolding size_in if_known
    size_refused = refused_answer (is_linked ws) known place (width_in ws t) (sym opened ∙ sym e ∙ q)

    pub length_refused : Err r ≡ chain_length_in ws t
    unfolding chain_length_in if_known
    length_refused = refused_answer (is_linked ws) known place (length_in ws t) (sym opened ∙ sym e ∙ q)

pub ruleset sizing = (span_inside, sized, size_unknown, size_refused)

pub ruleset measuring = (span_inside, measured, length_unknown, length_refused)
