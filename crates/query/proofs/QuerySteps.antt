-- The tests of the family query, one law for each return.
use Prim.Native.Nat.{ℕ, ◌+◌, ◌-◌, ◌*◌, ◌≤◌, ◌<◌}
use mathlib.Core.Path.{◌≡◌, refl, sym, ap, ◌∙◌}
use mathlib.Core.List.{List}
use mathlib.Core.Bool.{Bool, true, false, cond, ◌&&◌}
use native.Mathlib.Omega.{arith}
use native.Mathlib.Decide.{dec_lt}
use lib.Dec.{eqb, leb, ltb}
use lib.ListN.{length, get_or}
use borrow.Author.Tests.{le-leb, lt-leb, eq-eqb, ne_eqb, lt-ltb, le-ltb}
use Rattle.std.specs.Int.{from_bool}
use Rattle.descends.proofs.DescendsLaws.{linked}
use Rattle.descends.specs.Descends.{table_length, spans_start, span_count, spans_end, is_linked, pre_in, post_in, is_within, descends}

-- a test in a row that fails
row_2 : (a c d e : Bool) → (a && false && c && d && e) ≡ false
row_2 true c d e = refl
row_2 false c d e = refl

row_3 : (a b d e : Bool) → (a && b && false && d && e) ≡ false
row_3 true true d e = refl
row_3 true false d e = refl
row_3 false b d e = refl

row_4 : (a b c e : Bool) → (a && b && c && false && e) ≡ false
row_4 true true true e = refl
row_4 true true false e = refl
row_4 true false c e = refl
row_4 false b c e = refl

row_5 : (a b c d : Bool) → (a && b && c && d && false) ≡ false
row_5 true true true true = refl
row_5 true true true false = refl
row_5 true true false d = refl
row_5 true false c d = refl
row_5 false b c d = refl

-- ── whether the words are a linked table ──

module _ (ws : List ℕ) where
  abbrev A : Bool
  A = leb 10 (length ws)

  abbrev B : Bool
  B = eqb (get_or ws 0 0) 2

  abbrev C : Bool
  C = leb (get_or ws 1 0) (length ws)

  abbrev D : Bool
  D = leb 10 (get_or ws 9 0)

  -- where the spans end
  abbrev behind : ℕ
  behind = get_or ws 9 0 + 1 + 3 * get_or ws (get_or ws 9 0) 0

  abbrev E : Bool
  E = leb behind (get_or ws 1 0)

  -- five tests, one after the other
  five : is_linked ws ≡ (A && B && C && D && E)
  unfolding is_linked table_length spans_start spans_end span_count
  five = refl

  pub few : length ws < 10 → false ≡ is_linked ws
  few h = sym (five ∙ ap (λ x. x && B && C && D && E) (lt-leb 10 (length ws) h))

  pub other_edition : {x : ℕ} → x ≡ get_or ws 0 0 → (x ≡ 2 → ⊥) → false ≡ is_linked ws
  other_edition {x} e h = sym (five ∙ ap (λ x. A && x && C && D && E) (ne_eqb (get_or ws 0 0) 2 (λ z. h (e ∙ z))) ∙ row_2 A C D E)

  module _ {end start : ℕ} (e : end ≡ get_or ws 1 0) (s : start ≡ get_or ws 9 0) where
    pub long : length ws < end → false ≡ is_linked ws
    long h = sym (five ∙ ap (λ x. A && B && x && D && E) (lt-leb (get_or ws 1 0) (length ws) (omega (arith, e))) ∙ row_3 A B D E)

    pub early : start < 10 → false ≡ is_linked ws
    early h = sym (five ∙ ap (λ x. A && B && C && x && E) (lt-leb 10 (get_or ws 9 0) (omega (arith, s))) ∙ row_4 A B C E)

    pub past : end ≤ start → false ≡ is_linked ws
    past h = sym (five ∙ ap (λ x. A && B && C && D && x) (lt-leb behind (get_or ws 1 0) (omega (arith, e, s))) ∙ row_5 A B C D)

    -- three times the count, in the words that are left after it
    tripled : {count : ℕ} → count ≡ get_or ws (get_or ws 9 0) 0 → start < end → ltb (3 * count) (end - start) ≡ E
    tripled {count} c h = go (dec_lt (3 * count) (end - start))
      where
        go : Dec (3 * count < end - start) → ltb (3 * count) (end - start) ≡ E
        go (yes l) = lt-ltb (3 * count) (end - start) l ∙ sym (le-leb behind (get_or ws 1 0) (omega (arith, e, s, c)))
        go (no l) = le-ltb (3 * count) (end - start) (omega arith) ∙ sym (lt-leb behind (get_or ws 1 0) (omega (arith, e, s, c)))

    pub last_test : {x count : ℕ} → 10 ≤ length ws → x ≡ get_or ws 0 0 → x ≡ 2 → end ≤ length ws → 10 ≤ start → start < end →
        count ≡ get_or ws start 0 → ltb (3 * count) (end - start) ≡ is_linked ws
    last_test {x} {count} a b b' c d f g =
        tripled (g ∙ ap (λ k. get_or ws k 0) s) f
        ∙ sym
        (five
        ∙ ap (λ x. x && B && C && D && E) (le-leb 10 (length ws) a)
        ∙ ap (λ x. x && C && D && E) (eq-eqb (get_or ws 0 0) 2 (sym b ∙ b'))
        ∙ ap (λ x. x && D && E) (le-leb (get_or ws 1 0) (length ws) (omega (arith, e)))
        ∙ ap (λ x. x && E) (le-leb 10 (get_or ws 9 0) (omega (arith, s))))

pub ruleset linking = (few, other_edition, long, early, past, last_test)

-- ── whether the span of a holds t ──

four_2 : (a c d : Bool) → (a && false && c && d) ≡ false
four_2 true c d = refl
four_2 false c d = refl

four_3 : (a b d : Bool) → (a && b && false && d) ≡ false
four_3 true true d = refl
four_3 true false d = refl
four_3 false b d = refl

module _ (ws : List ℕ) (t a : ℕ) {start count : ℕ} (s : start ≡ spans_start ws) (c : count ≡ span_count ws) where
  abbrev pre_of : ℕ → ℕ
  pre_of x = get_or ws (start + 1 + 3 * x) 0

  abbrev post_of : ℕ → ℕ
  post_of x = get_or ws (start + 2 + 3 * x) 0

  -- four tests, one after the other
  four : is_within ws t a ≡ (ltb t count && ltb a count && leb (pre_of a) (pre_of t) && ltb (pre_of t) (post_of a))
  unfolding is_within pre_in post_in
  four = rw (c, s) refl

  pub unknown_t : count ≤ t → false ≡ is_within ws t a
  unknown_t h = sym (four ∙ ap (λ x. x && ltb a count && leb (pre_of a) (pre_of t) && ltb (pre_of t) (post_of a)) (le-ltb t count h))

  pub unknown_a : count ≤ a → false ≡ is_within ws t a
  unknown_a h =
      sym
      (four
      ∙ ap (λ x. ltb t count && x && leb (pre_of a) (pre_of t) && ltb (pre_of t) (post_of a)) (le-ltb a count h)
      ∙ four_2 (ltb t count) (leb (pre_of a) (pre_of t)) (ltb (pre_of t) (post_of a)))

  module _ {pre low : ℕ} (p : pre ≡ get_or ws (start + 1 + 3 * t) 0) (l : low ≡ get_or ws (start + 1 + 3 * a) 0) where
    pub before : pre < low → false ≡ is_within ws t a
    before h =
        sym
        (four
        ∙ ap (λ x. ltb t count && ltb a count && x && ltb (pre_of t) (post_of a)) (lt-leb (pre_of a) (pre_of t) (omega (arith, p, l)))
        ∙ four_3 (ltb t count) (ltb a count) (ltb (pre_of t) (post_of a)))

    pub last_of_four : {post : ℕ} → t < count → a < count → low ≤ pre → post ≡ get_or ws (start + 1 + 3 * a + 1) 0 →
        ltb pre post ≡ is_within ws t a
    last_of_four {post} h k j q =
        let z : start + 1 + 3 * a + 1 ≡ start + 2 + 3 * a = omega arith in
        ap (λ x. ltb x post) p
        ∙ ap (ltb (pre_of t)) (q ∙ ap (λ i. get_or ws i 0) z)
        ∙ sym
        (four
        ∙ ap (λ x. x && ltb a count && leb (pre_of a) (pre_of t) && ltb (pre_of t) (post_of a)) (lt-ltb t count h)
        ∙ ap (λ x. x && leb (pre_of a) (pre_of t) && ltb (pre_of t) (post_of a)) (lt-ltb a count k)
        ∙ ap (λ x. x && ltb (pre_of t) (post_of a)) (le-leb (pre_of a) (pre_of t) (omega (arith, p, l))))

pub ruleset withins = (unknown_t, unknown_a, before, last_of_four)

-- what the query asks of a linked table
module _ (ws : List ℕ) {start : ℕ} (h : is_linked ws ≡ true) (s : start ≡ get_or ws 9 0) where
  start_is : start ≡ spans_start ws
  unfolding spans_start
  start_is = s

  pub start_inside : start < length ws
  start_inside = omega (arith, start_is, (linked ws h).room)

  pub spans_inside : {count : ℕ} → count ≡ get_or ws start 0 →
      (start ≡ spans_start ws) × ((count ≡ span_count ws) × (start + 1 + 3 * count ≤ length ws))
  unfolding span_count
  spans_inside c =
      let k : _ ≡ span_count ws = c ∙ ap (λ k. get_or ws k 0) start_is in
      (start_is, (k, omega (arith, start_is, k, (linked ws h).room)))

pub header_inside : (ws : List ℕ) → is_linked ws ≡ true → 9 < length ws
header_inside ws h = omega (arith, (linked ws h).header)

-- ── the answer ──

pub asked : (ws : List ℕ) {l : Bool} → l ≡ is_linked ws → l ≡ true → is_linked ws ≡ true
asked ws e h = sym e ∙ h

-- one answer of a linked table, another of other words
pub by_linked : (ws : List ℕ) {l b : Bool} {A : Type 0} (x y : A) → l ≡ is_linked ws → l ≡ b → cond b x y ≡ cond (is_linked ws) x y
by_linked ws x y e h = ap (λ b. cond b x y) (sym h ∙ e)

module _ (ws : List ℕ) (t a : ℕ) {l : Bool} (e : l ≡ is_linked ws) where
  pub not_linked_lem : l ≡ false → 25 ≡ descends ws t a
  unfolding descends
  not_linked_lem h = by_linked ws (cond (is_within ws t a) 1 0) 25 e h

  module _ (h : l ≡ true) {start count : ℕ} (s : start ≡ get_or ws 9 0) (c : count ≡ get_or ws start 0) where
    pub start_told : start ≡ spans_start ws
    start_told = (spans_inside ws (asked ws e h) s c).0

    pub count_told : count ≡ span_count ws
    count_told = (spans_inside ws (asked ws e h) s c).1.0

    pub room_told : start + 1 + 3 * count ≤ length ws
    room_told = (spans_inside ws (asked ws e h) s c).1.1

  pub within_told : l ≡ true → {w : Bool} {x : ℕ} → w ≡ is_within ws t a → x ≡ from_bool w → x ≡ descends ws t a
  unfolding descends
  within_told h f g = g ∙ ap from_bool f ∙ one (is_within ws t a) ∙ by_linked ws (cond (is_within ws t a) 1 0) 25 e h
    where
      one : (b : Bool) → from_bool b ≡ cond b 1 0
      one true = refl
      one false = refl

pub ruleset querying = (not_linked_lem, asked, start_inside, header_inside, start_told, count_told, room_told, within_told)
