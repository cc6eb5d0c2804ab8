-- The scan for the nearest family, one law for each return.
use Prim.Native.Nat.{ℕ, zero, suc, ◌+◌, ◌-◌, ◌*◌, ◌≤◌, ◌<◌}
use mathlib.Core.Path.{◌≡◌, refl, sym, ap, ap₂, ◌∙◌, subst, fun_ext}
use mathlib.Core.List.{List, ◌∷◌}
use mathlib.Core.Bool.{Bool, true, false, cond, ◌&&◌, and_comm}
use Rattle.std.specs.Prelude.{Option, None, Some, Err, Ok}
use Rattle.std.specs.Bool.{then_some}
use native.Mathlib.Omega.{arith}
use lib.Dec.{T, leb, ltb}
use lib.ListN.{length, get_or}
use borrow.Author.Tests.{leb-true, le-leb, ltb-true, lt-ltb, le-ltb}
use Rattle.lists.specs.Lists.{from, keep}
use Rattle.lists.specs.Best.{winner, best}
use Rattle.lists.specs.ListLaws.{T_true, T_of, both, and_first, and_second, and_t, and_false}
use Rattle.law_counting.specs.Counting.{bool_ext}
use Rattle.law_counting.specs.Kept.{keep_none}
use Rattle.error.specs.declared.TypeId.{TypeId}
use Rattle.error.specs.Answer.{type_number}
use Rattle.descends.specs.Descends.{span_count, is_linked, pre_in, post_in, is_within}
use Rattle.descends.proofs.DescendsLaws.{pre_is, post_is, within_is, is_within_lem, not_within}
use Rattle.descends.specs.Sizes.{width_in}
use Rattle.descends.specs.declared.QueryError.TheVariants.{NotLinked}
use Rattle.descends.specs.Nearest.{holds_both, is_narrower, nearest_of, family_of, nearest_in}
use Rattle.query.proofs.QuerySteps.{spans_inside, start_inside, header_inside, asked, by_linked}
use Rattle.query_nearest.specs.declared.Candidate.{Candidate}
use Rattle.query_nearest.specs.Scan.{Spans, Asked, numbered, holds, best_from, least_of, Scanned}

-- ── one type more ──

module _ (ws : List ℕ) (low high a : ℕ) (known : a < span_count ws) where
  abbrev later : Option ℕ
  later = best_from ws low high (a + 1)

  first_more : from a (span_count ws - a) ≡ a ∷ from (a + 1) (span_count ws - (a + 1))
  first_more =
      let n : span_count ws - a ≡ suc (span_count ws - (a + 1)) = omega arith in
      let s : suc a ≡ a + 1 = omega arith in
      ap (from a) n ∙ ap (λ x. a ∷ from x (span_count ws - (a + 1))) s

  one_more : {h : Bool} → holds ws low high a ≡ h → best_from ws low high a ≡ cond h (Some (winner (is_narrower ws) a later)) later
  unfolding best_from best
  one_more {h} e =
      let rest = keep (holds ws low high) (from (a + 1) (span_count ws - (a + 1))) in
      ap (λ l. best (is_narrower ws) (keep (holds ws low high) l)) first_more
      ∙ ap (λ b. best (is_narrower ws) (cond b (a ∷ rest) rest)) e
      ∙ chosen h rest
    where
      chosen : (b : Bool) (l : List ℕ) →
          let o = best (is_narrower ws) l in
          best (is_narrower ws) (cond b (a ∷ l) l) ≡ cond b (Some (winner (is_narrower ws) a o)) o
      chosen true l = refl
      chosen false l = refl

  -- a that is no wider than the best of the later ones takes its place
  winner_own : (o : Option ℕ) → width_in ws a ≤ least_of ws o → winner (is_narrower ws) a o ≡ a
  unfolding winner least_of is_narrower
  winner_own None h = refl
  winner_own (Some f) h = ap (λ b. cond b f a) (le-ltb (width_in ws f) (width_in ws a) h)

  winner_kept : (o : Option ℕ) → width_in ws a ≤ 4294967295 → least_of ws o < width_in ws a → Some (winner (is_narrower ws) a o) ≡ o
  unfolding winner least_of is_narrower
  winner_kept None f h = absurd (omega arith)
  winner_kept (Some g) f h = ap (λ b. Some (cond b g a)) (lt-ltb (width_in ws g) (width_in ws a) h)

  module _ {c : Candidate} (s : Scanned ws low high (a + 1) c) where
    same_best : best_from ws low high a ≡ later → Scanned ws low high a c
    same_best e = record { found = e ∙ s.found; least = s.least ∙ ap (least_of ws) (sym e) }

    module _ {start pre post : ℕ} (w : Spans ws start low high)
        (e : pre ≡ get_or ws (start + 1 + 3 * a) 0) (f : post ≡ get_or ws (start + 1 + 3 * a + 1) 0) where
      begins : pre ≡ pre_in ws a
      begins = pre_is ws a w.starts e

      ends : post ≡ post_in ws a
      ends = post_is ws a w.starts f

      width_is : post - pre ≡ width_in ws a
      unfolding width_in
      width_is = ap₂ (λ x y. x - y) ends begins

      module _ {h : Bool} (q : h ≡ (leb pre low && ltb high post)) where
        held_is : h ≡ holds ws low high a
        unfolding holds
        held_is = q ∙ ap₂ (λ x y. leb x low && ltb high y) begins ends

        pub passed : h ≡ false → Scanned ws low high a c
        passed k = same_best (one_more (sym held_is ∙ k))

        module _ (k : h ≡ true) where
          pub no_wrap : pre ≤ post
          no_wrap =
              let both_hold = sym q ∙ k in
              let i = leb-true pre low (and_first (leb pre low) (ltb high post) both_hold) in
              let j = ltb-true high post (and_second (leb pre low) (ltb high post) both_hold) in
              omega (arith, w.ordered, i, j)

          pub is_wider : post < 4294967296 → c.width < post - pre → Scanned ws low high a c
          is_wider b i = same_best (one_more (sym held_is ∙ k)
              ∙ winner_kept later (omega (arith, width_is)) (omega (arith, width_is, s.least)))

          pub no_wider : post - pre ≤ c.width → Scanned ws low high a (record { family = a; width = post - pre })
          unfolding least_of
          no_wider i =
              let own : best_from ws low high a ≡ Some a =
              one_more (sym held_is ∙ k) ∙ ap Some (winner_own later (omega (arith, width_is, s.least))) in
              record {
                found = own ∙ sym (ap (λ b. then_some b a) (lt-ltb a (span_count ws) known));
                least = width_is ∙ sym (ap (least_of ws) own);
              }

module _ {ws : List ℕ} {start low high a : ℕ} (w : Spans ws start low high) (k : a < span_count ws) where
  pub pre_inside : start + 1 + 3 * a < length ws
  pre_inside = omega (arith, w.room)

  pub post_inside : start + 1 + 3 * a + 1 < length ws
  post_inside = omega (arith, w.room)

pub ruleset bettering = (passed, no_wrap, is_wider, no_wider, pre_inside, post_inside)

-- ── all types ──

module _ (ws : List ℕ) (low high : ℕ) where
  pub none_yet : {count : ℕ} → count ≡ span_count ws → Scanned ws low high count (record { family = count; width = 4294967295 })
  unfolding best_from best least_of
  none_yet {count} e =
      let z : span_count ws - count ≡ 0 = omega (arith, e) in
      let q : best_from ws low high count ≡ None = ap (λ n. best (is_narrower ws) (keep (holds ws low high) (from count n))) z in
      record {
        found = q ∙ sym (ap (λ b. then_some b count) (le-ltb count (span_count ws) (omega (arith, e))));
        least = sym (ap (least_of ws) q);
      }

pub next_known : (ws : List ℕ) {count a : ℕ} → count ≡ span_count ws → a ≤ count → 0 < a → a - 1 < span_count ws
next_known ws e h k = omega (arith, e)

module _ (ws : List ℕ) (low high : ℕ) {a : ℕ} {c : Candidate} (s : Scanned ws low high a c) where
  pub next_scanned : 0 < a → Scanned ws low high (a - 1 + 1) c
  next_scanned k = let z : a ≡ a - 1 + 1 = omega arith in subst (λ x. Scanned ws low high x c) z s

  pub to_first : {count : ℕ} {o : Option TypeId} → count ≡ span_count ws → a ≤ 0 →
      o ≡ then_some (ltb c.family count) (type_number c.family) → o ≡ numbered (best_from ws low high 0)
  unfolding numbered
  to_first {count} e k h =
      let z : 0 ≡ a = omega arith in
      h ∙ numbered_if (ltb c.family count)
      ∙ ap (λ n. numbered (then_some (ltb c.family n) c.family)) e
      ∙ sym (ap numbered (ap (best_from ws low high) z ∙ s.found))
    where
      numbered_if : (b : Bool) → then_some b (type_number c.family) ≡ numbered (then_some b c.family)
      numbered_if true = refl
      numbered_if false = refl

pub ruleset scanning = (none_yet, next_known, next_scanned, to_first)

-- ── two known types ──

keep_alike : (p q : ℕ → Bool) (k n : ℕ) → ((x : ℕ) → x < k + n → p x ≡ q x) → keep p (from k n) ≡ keep q (from k n)
keep_alike p q k zero h = refl
keep_alike p q k (suc n) h =
    ap₂ (λ b l. cond b (k ∷ l) l) (h k (omega arith)) (keep_alike p q (suc k) n (λ x l. h x (omega arith)))

module _ {ws : List ℕ} {start count t u : ℕ} (k : Asked ws start count t u) where
  pub first_inside : start + 1 + 3 * t < length ws
  first_inside = omega (arith, k.room, k.first)

  pub second_inside : start + 1 + 3 * u < length ws
  second_inside = omega (arith, k.room, k.second)

  pub asked_spans : {low high : ℕ} → low ≤ high → Spans ws start low high
  asked_spans h = record { starts = k.starts; room = omega (arith, k.room, k.counts); ordered = h }

  pub asked_count : count ≡ span_count ws
  asked_count = k.counts

-- t is entered before u, or they are one
module _ (ws : List ℕ) (t u : ℕ) (first : t < span_count ws) (second : u < span_count ws) (ordered : pre_in ws t ≤ pre_in ws u) where
  abbrev low : ℕ
  low = pre_in ws t

  abbrev high : ℕ
  high = pre_in ws u

  held_both : (x : ℕ) → T (holds_both ws t u x) → T (holds ws low high x)
  unfolding holds holds_both
  held_both x h =
      let k = (and_t (is_within ws t x) (is_within ws u x)).0 h in
      let a = within_is ws t x (T_true (is_within ws t x) k.0) in
      let b = within_is ws u x (T_true (is_within ws u x) k.1) in
      T_of (leb (pre_in ws x) low && ltb high (post_in ws x))
      (both (le-leb (pre_in ws x) low a.low) (lt-ltb high (post_in ws x) b.high))

  both_held : (x : ℕ) → x < span_count ws → T (holds ws low high x) → T (holds_both ws t u x)
  unfolding holds holds_both
  both_held x n h =
      let k = T_true (leb (pre_in ws x) low && ltb high (post_in ws x)) h in
      let i = leb-true (pre_in ws x) low (and_first (leb (pre_in ws x) low) (ltb high (post_in ws x)) k) in
      let j = ltb-true high (post_in ws x) (and_second (leb (pre_in ws x) low) (ltb high (post_in ws x)) k) in
      let a = is_within_lem ws t x (record { first = first; second = n; low = i; high = omega (arith, ordered, j) }) in
      let b = is_within_lem ws u x (record { first = second; second = n; low = omega (arith, ordered, i); high = j }) in
      T_of (is_within ws t x && is_within ws u x) (both a b)

  held_alike : (x : ℕ) → x < span_count ws → holds_both ws t u x ≡ holds ws low high x
  held_alike x n = bool_ext (holds_both ws t u x) (holds ws low high x) (held_both x) (both_held x n)

  scanned_all : nearest_of ws t u ≡ best_from ws low high 0
  unfolding nearest_of best_from
  scanned_all =
      let z : span_count ws ≡ span_count ws - 0 = omega arith in
      ap (best (is_narrower ws)) (keep_alike (holds_both ws t u) (holds ws low high) 0 (span_count ws) (λ x n. held_alike x (omega arith)))
      ∙ ap (λ n. best (is_narrower ws) (keep (holds ws low high) (from 0 n))) z

-- the pair's order does not matter
nearest_turned : (ws : List ℕ) (t u : ℕ) → nearest_of ws t u ≡ nearest_of ws u t
unfolding nearest_of holds_both
nearest_turned ws t u =
    let e : holds_both ws t u ≡ holds_both ws u t = fun_ext (λ a. and_comm (is_within ws t a) (is_within ws u a)) in
    ap (λ p. best (is_narrower ws) (keep p (from 0 (span_count ws)))) e

module _ {ws : List ℕ} {start count t u : ℕ} (k : Asked ws start count t u) {p q : ℕ}
    (e : p ≡ get_or ws (start + 1 + 3 * t) 0) (f : q ≡ get_or ws (start + 1 + 3 * u) 0) where
  first_is : p ≡ pre_in ws t
  first_is = pre_is ws t k.starts e

  second_is : q ≡ pre_in ws u
  second_is = pre_is ws u k.starts f

  pub in_order : {o : Option TypeId} → p ≤ q → o ≡ numbered (best_from ws p q 0) → o ≡ numbered (nearest_of ws t u)
  in_order h s =
      let a : t < span_count ws = omega (arith, k.first, k.counts) in
      let b : u < span_count ws = omega (arith, k.second, k.counts) in
      s ∙ sym (ap numbered (scanned_all ws t u a b (omega (arith, first_is, second_is))
      ∙ sym (ap₂ (λ x y. best_from ws x y 0) first_is second_is)))

  pub out_of_order : {o : Option TypeId} → q < p → o ≡ numbered (best_from ws q p 0) → o ≡ numbered (nearest_of ws t u)
  out_of_order h s =
      let a : t < span_count ws = omega (arith, k.first, k.counts) in
      let b : u < span_count ws = omega (arith, k.second, k.counts) in
      s ∙ sym (ap numbered (nearest_turned ws t u
      ∙ scanned_all ws u t b a (omega (arith, first_is, second_is))
      ∙ sym (ap₂ (λ x y. best_from ws x y 0) second_is first_is)))

pub ruleset pairing = (first_inside, second_inside, asked_spans, asked_count, in_order, out_of_order)

-- ── the answer ──

unknown_none : (ws : List ℕ) (t u : ℕ) → ((x : ℕ) → holds_both ws t u x ≡ false) → None ≡ numbered (nearest_of ws t u)
unfolding nearest_of numbered best
unknown_none ws t u h = sym (ap (λ l. numbered (best (is_narrower ws) l)) (keep_none (holds_both ws t u) h (from 0 (span_count ws))))

module _ (ws : List ℕ) (t u : ℕ) (l : is_linked ws ≡ true) {start count : ℕ} (s : start ≡ get_or ws 9 0) (c : count ≡ get_or ws start 0) where
  count_is : count ≡ span_count ws
  count_is = (spans_inside ws l s c).1.0

  pub unknown_first : count ≤ t → None ≡ numbered (nearest_of ws t u)
  unfolding holds_both
  unknown_first h = unknown_none ws t u
      (λ x. ap (λ b. b && is_within ws u x) (not_within ws t x (λ w. omega (arith, count_is, w.first))))

  pub unknown_second : count ≤ u → None ≡ numbered (nearest_of ws t u)
  unfolding holds_both
  unknown_second h = unknown_none ws t u
      (λ x.
      ap (λ b. is_within ws t x && b) (not_within ws u x (λ w. omega (arith, count_is, w.first)))
      ∙ and_false (is_within ws t x))

  pub is_asked : t < count → u < count → Asked ws start count t u
  is_asked h i = let k = spans_inside ws l s c in record { starts = k.0; counts = count_is; room = k.1.1; first = h; second = i }

pub ruleset answering = (header_inside, start_inside, unknown_first, unknown_second, is_asked)

family_numbered : (o : Option ℕ) → Ok (numbered o) ≡ family_of o
unfolding numbered family_of
family_numbered None = refl
family_numbered (Some f) = refl

module _ (ws : List ℕ) (t u : ℕ) {l : Bool} (e : l ≡ is_linked ws) where
  pub is_answer : l ≡ true → {r : Option TypeId} → r ≡ numbered (nearest_of ws t u) → Ok r ≡ nearest_in ws t u
  unfolding nearest_in
  is_answer h k =
      ap Ok k
      ∙ family_numbered (nearest_of ws t u)
      ∙ by_linked ws (family_of (nearest_of ws t u)) (Err NotLinked) e h

  pub no_table : l ≡ false → Err NotLinked ≡ nearest_in ws t u
  unfolding nearest_in
  no_table h = by_linked ws (family_of (nearest_of ws t u)) (Err NotLinked) e h

pub ruleset nearing = (asked, is_answer, no_table)
