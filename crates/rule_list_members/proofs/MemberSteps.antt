-- Members tested one after the other.
use Prim.Native.Nat.{ℕ, suc, ◌+◌, ◌-◌, ◌*◌, ◌/◌, ◌%◌, ◌≤◌, ◌<◌}
use mathlib.Core.Path.{◌≡◌, refl, sym, ap, ◌∙◌}
use mathlib.Core.List.{List, [], ◌∷◌}
use mathlib.Core.Bool.{Bool, true, false, not, ◌&&◌, ◌||◌}
use native.Mathlib.Omega.{arith}
use lib.Dec.{eqb, ltb}
use native.Mathlib.Decide.{dec_lt}
use lib.ListN.{length, get_or}
use borrow.Author.Tests.{eq-eqb, ne_eqb}
use Rattle.error.specs.declared.StrId.{StrId}
use Rattle.error.specs.Answer.{string_number}
use Rattle.reader.specs.Reader.{got, word}
use Rattle.reader.specs.ReaderLaws.{not_broken, word_at, word_end}
use Rattle.rule_list_members.specs.declared.ListKind.{ListKind}
use Rattle.rule_list_members.specs.declared.ListKind.TheVariants.{Params, Args}
use Rattle.std.specs.Prelude.{Option, None, Some}
use Rattle.rule_list_members.specs.Members.{pairs_at, is_listed, is_late, is_early, is_in_order, late_after, name_of, name_in, member_holds, members_hold}

-- ── by the kind of list ──

module _ (k : ListKind) (w : ℕ) where
  pub listed_params : k ≡ Params → ltb w 4 ≡ is_listed k w
  unfolding is_listed
  listed_params e = sym (ap (λ (x : ListKind). is_listed x w) e)

  pub listed_args : k ≡ Args → ltb w 3 ≡ is_listed k w
  unfolding is_listed
  listed_args e = sym (ap (λ (x : ListKind). is_listed x w) e)

  pub late_params : k ≡ Params → eqb (w / 2 % 2) 1 ≡ is_late k w
  unfolding is_late
  late_params e = sym (ap (λ (x : ListKind). is_late x w) e)

  pub late_args : k ≡ Args → eqb w 1 ≡ is_late k w
  unfolding is_late
  late_args e = sym (ap (λ (x : ListKind). is_late x w) e)

  pub early_params : k ≡ Params → not (eqb (w / 2 % 2) 1) ≡ is_early k w
  unfolding is_early
  early_params e = sym (ap (λ (x : ListKind). is_early x w) e)

  pub early_args : k ≡ Args → eqb w 0 ≡ is_early k w
  unfolding is_early
  early_args e = sym (ap (λ (x : ListKind). is_early x w) e)

-- ── its name ──

module _ (k : ListKind) (first second : ℕ) where
  pub unnamed_param : k ≡ Params → second ≡ 0 → None ≡ name_of k first second
  unfolding name_of
  unnamed_param e h = sym (ap (λ (x : ListKind). name_of x first second) e ∙ rw (eq-eqb second 0 h) refl)

  pub named_param : k ≡ Params → (second ≡ 0 → ⊥) → Some (string_number (second - 1)) ≡ name_of k first second
  unfolding name_of
  named_param e h = sym (ap (λ (x : ListKind). name_of x first second) e ∙ rw (ne_eqb second 0 h) refl)

  pub named_arg : k ≡ Args → first ≡ 1 → Some (string_number second) ≡ name_of k first second
  unfolding name_of
  named_arg e h = sym (ap (λ (x : ListKind). name_of x first second) e ∙ rw (eq-eqb first 1 h) refl)

  pub unnamed_arg : k ≡ Args → (first ≡ 1 → ⊥) → None ≡ name_of k first second
  unfolding name_of
  unnamed_arg e h = sym (ap (λ (x : ListKind). name_of x first second) e ∙ rw (ne_eqb first 1 h) refl)

module _ (strings : ℕ) (name : Option StrId) where
  pub nothing_in : name ≡ None → true ≡ name_in strings name
  unfolding name_in
  nothing_in e = sym (ap (name_in strings) e)

  pub number_in : (s : StrId) → name ≡ Some s → ltb s.0 strings ≡ name_in strings name
  unfolding name_in
  number_in s e = sym (ap (name_in strings) e)

-- ── one member ──

module _ (k : ListKind) (late : Bool) (first : ℕ) where
  pub order_late : {r : Bool} → late ≡ true → r ≡ is_early k first → not r ≡ is_in_order k late first
  unfolding is_in_order
  order_late e h = ap not h ∙ sym (ap (λ b. not (b && is_early k first)) e)

  pub order_free : late ≡ false → true ≡ is_in_order k late first
  unfolding is_in_order
  order_free e = sym (ap (λ b. not (b && is_early k first)) e)

  pub late_before : late ≡ true → true ≡ late_after k late first
  unfolding late_after
  late_before e = sym (ap (λ b. b || is_late k first) e)

  pub late_here : {r : Bool} → late ≡ false → r ≡ is_late k first → r ≡ late_after k late first
  unfolding late_after
  late_here e h = h ∙ sym (ap (λ b. b || is_late k first) e)

  module _ (strings second : ℕ) where
    pub member_unlisted : {r : Bool} → r ≡ false → r ≡ is_listed k first → false ≡ member_holds k strings late first second
    unfolding member_holds
    member_unlisted e h = sym (ap (λ b. b && (is_in_order k late first && name_in strings (name_of k first second))) (sym h ∙ e))

    pub member_disordered : {r x : Bool} → r ≡ true → r ≡ is_listed k first → x ≡ false → x ≡ is_in_order k late first → false ≡ member_holds k strings late first second
    unfolding member_holds
    member_disordered e h f i = sym (rw (sym h ∙ e, sym i ∙ f) refl)

    pub member_last : {r x y : Bool} {name : Option StrId} → r ≡ true → r ≡ is_listed k first → x ≡ true → x ≡ is_in_order k late first → name ≡ name_of k first second → y ≡ name_in strings name →
        y ≡ member_holds k strings late first second
    unfolding member_holds
    member_last e h f i n j = j ∙ ap (name_in strings) n ∙ sym (rw (sym h ∙ e, sym i ∙ f) refl)

-- ── the first of some members ──

pub pairs_first : (ws : List ℕ) (left p : ℕ) → 0 < left → pairs_at ws left p ≡ (get_or ws p 0, get_or ws (p + 1) 0) ∷ pairs_at ws (left - 1) (p + 2)
unfolding pairs_at
pairs_first ws left p h = let z : left ≡ suc (left - 1) = omega arith in ap (λ n. pairs_at ws n p) z

pub pairs_none : (ws : List ℕ) (left p : ℕ) → left ≤ 0 → pairs_at ws left p ≡ []
unfolding pairs_at
pairs_none ws left p h = let z : left ≡ 0 = omega arith in ap (λ n. pairs_at ws n p) z

-- ── all of them: what holds of the members ahead holds of all ──

-- count - i members are ahead, from p on
pub record Holding (k : ListKind) (strings n : ℕ) (ws : List ℕ) (count from i p : ℕ) (late : Bool) : Type 0 where
  pub inside : p + 2 * (count - i) ≤ n
  pub same : members_hold k strings false (pairs_at ws count from) ≡ members_hold k strings late (pairs_at ws (count - i) p)

module _ (k : ListKind) (strings n : ℕ) (ws : List ℕ) (count from : ℕ) where
  pub holding_start : from + 2 * count ≤ n → Holding k strings n ws count from 0 from false
  holding_start h = let z : count - 0 ≡ count = omega arith in record { inside = omega (arith, h); same = rw z refl }

  module _ (i p : ℕ) (late : Bool) (x : Holding k strings n ws count from i p late) where
    pub holding_inside : p + 2 * (count - i) ≤ n
    holding_inside = x.inside

    pub holding_end : count ≤ i → true ≡ members_hold k strings false (pairs_at ws count from)
    unfolding members_hold
    holding_end h = sym (x.same ∙ ap (members_hold k strings late) (pairs_none ws (count - i) p (omega arith)))

    module _ (h : i < count) {a b : ℕ} where
      ahead : a ≡ get_or ws p 0 → b ≡ get_or ws (p + 1) 0 →
          members_hold k strings false (pairs_at ws count from)
          ≡ (member_holds k strings late a b && members_hold k strings (late_after k late a) (pairs_at ws (count - (i + 1)) (p + 2)))
      unfolding members_hold
      ahead e f = let z : count - i - 1 ≡ count - (i + 1) = omega arith in
          x.same ∙ ap (members_hold k strings late) (pairs_first ws (count - i) p (omega arith)) ∙ rw (z, e, f) refl

      pub holding_stop : {r : Bool} → a ≡ get_or ws p 0 → b ≡ get_or ws (p + 1) 0 → r ≡ false → r ≡ member_holds k strings late a b → false ≡ members_hold k strings false (pairs_at ws count from)
      holding_stop e f g m = sym (ahead e f
          ∙ ap (λ y. y && members_hold k strings (late_after k late a) (pairs_at ws (count - (i + 1)) (p + 2))) (sym m ∙ g))

      pub holding_next : {r l : Bool} → a ≡ get_or ws p 0 → b ≡ get_or ws (p + 1) 0 → r ≡ true → r ≡ member_holds k strings late a b → l ≡ late_after k late a →
          Holding k strings n ws count from (i + 1) (p + 2) l
      holding_next e f g m j = record {
        inside = omega (arith, x.inside);
        same = ahead e f ∙ ap (λ y. y && members_hold k strings (late_after k late a) (pairs_at ws (count - (i + 1)) (p + 2))) (sym m ∙ g)
            ∙ ap (λ y. members_hold k strings y (pairs_at ws (count - (i + 1)) (p + 2))) (sym j);
      }

pub ruleset holding = (holding_start, holding_end, holding_stop, holding_next)

-- a word that was read
pub word_inv : {C : Type 0} (ws : List ℕ) (p : ℕ) {a q : ℕ} → word ws p ≡ got a q → (p < length ws → get_or ws p 0 ≡ a → p + 1 ≡ q → C) → C
word_inv {C} ws p {a} {q} e k = go (dec_lt p (length ws))
  where
    go : Dec (p < length ws) → C
    go (yes h) = let z : got (get_or ws p 0) (p + 1) ≡ got a q = sym (word_at ws p h) ∙ e in k h (cc) (cc)
    go (no h) = absurd (not_broken (sym (word_end ws p (omega arith)) ∙ e))
