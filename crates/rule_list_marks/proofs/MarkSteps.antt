-- Marks written one after the other.
use Prim.Native.Nat.{ℕ, ◌+◌, ◌-◌, ◌*◌, ◌≤◌, ◌<◌}
use mathlib.Core.Path.{◌≡◌, refl, sym, ap, ap₂, ◌∙◌}
use mathlib.Core.List.{List, ◌∷◌}
use mathlib.Core.Bool.{Bool, true, false, not, ◌&&◌}
use native.Mathlib.Omega.{arith}
use lib.Dec.{eqb}
use lib.ListN.{length, get_or, set, length-set}
use borrow.Author.Tests.{ltb-true}
use Rattle.lists.specs.ListLaws.{and_first, and_second}
use Rattle.error.specs.declared.StrId.{StrId}
use Rattle.rule_list_members.specs.declared.ListKind.{ListKind}
use Rattle.std.specs.Prelude.{Option, None, Some}
use Rattle.rule_list_members.specs.Members.{pairs_at, name_of, name_in}
use Rattle.rule_list_marks.specs.Marks.{names_in, put_mark, is_new, put_marks, are_new}
use Rattle.rule_list_members.proofs.MemberSteps.{pairs_first, pairs_none}

-- ── one ──

pub number_below : {n : ℕ} {name : Option StrId} (s : StrId) → name ≡ Some s → name_in n name ≡ true → s.0 < n
unfolding name_in
number_below {n} s e h = ltb-true s.0 n (sym (ap (name_in n) e) ∙ h)

module _ (v base : ℕ) (w : List ℕ) {name : Option StrId} where
  pub mark_none : name ≡ None → (true ≡ is_new v base w name) × (w ≡ put_mark v base w name)
  unfolding is_new put_mark
  mark_none e = (sym (ap (is_new v base w) e), sym (ap (put_mark v base w) e))

  pub mark_put : (s : StrId) → name ≡ Some s → (not (eqb (get_or w (base + s.0) 0) v) ≡ is_new v base w name) × (set w (base + s.0) v ≡ put_mark v base w name)
  unfolding is_new put_mark
  mark_put s e = (sym (ap (is_new v base w) e), sym (ap (put_mark v base w) e))

pub length_put_mark : (v base : ℕ) (w : List ℕ) (m : Option StrId) → length (put_mark v base w m) ≡ length w
unfolding put_mark
length_put_mark v base w None = refl
length_put_mark v base w (Some s) = length-set w (base + s.0) v

-- ── all: what is ahead makes the rest ──

-- count - i are ahead, from p on
pub record Marking (k : ListKind) (v base strings n : ℕ) (ws w₀ : List ℕ) (count from : ℕ) (w : List ℕ) (i p : ℕ)
    (new : Bool) : Type 0 where
  pub inside : p + 2 * (count - i) ≤ n
  pub len : length w ≡ length w₀
  pub names : names_in k strings (pairs_at ws (count - i) p) ≡ true
  pub news : are_new k v base w₀ (pairs_at ws count from) ≡ (new && are_new k v base w (pairs_at ws (count - i) p))
  pub puts : put_marks k v base w₀ (pairs_at ws count from) ≡ put_marks k v base w (pairs_at ws (count - i) p)

module _ (k : ListKind) (v base strings n : ℕ) (ws w₀ : List ℕ) (count from : ℕ) where
  pub marking_start : from + 2 * count ≤ n → names_in k strings (pairs_at ws count from) ≡ true →
      Marking k v base strings n ws w₀ count from w₀ 0 from true
  marking_start h e = let z : count - 0 ≡ count = omega arith in record {
    inside = omega (arith, h);
    len = refl;
    names = rw z e;
    news = rw z refl;
    puts = rw z refl;
  }

  module _ (w : List ℕ) (i p : ℕ) (new : Bool) (x : Marking k v base strings n ws w₀ count from w i p new) where
    pub marking_end : count ≤ i → (new ≡ are_new k v base w₀ (pairs_at ws count from)) ×
        (w ≡ put_marks k v base w₀ (pairs_at ws count from))
    unfolding are_new put_marks
    marking_end h = (
      sym (x.news ∙ ap (λ l. new && are_new k v base w l) (pairs_none ws (count - i) p (omega arith)) ∙ go new),
      sym (x.puts ∙ ap (put_marks k v base w) (pairs_none ws (count - i) p (omega arith))),
    )
      where
        go : (b : Bool) → (b && true) ≡ b
        go true = refl
        go false = refl

    pub marking_inside : p + 2 * (count - i) ≤ n
    marking_inside = x.inside

    pub marking_len : length w ≡ length w₀
    marking_len = x.len

    module _ (h : i < count) {a b : ℕ} {name : Option StrId} (e : a ≡ get_or ws p 0) (f : b ≡ get_or ws (p + 1) 0)
        (g : name ≡ name_of k a b) where
      fewer : count - i - 1 ≡ count - (i + 1)
      fewer = omega arith

      first_pair : pairs_at ws (count - i) p ≡ (a, b) ∷ pairs_at ws (count - (i + 1)) (p + 2)
      first_pair = pairs_first ws (count - i) p (omega arith)
          ∙ ap (λ j. (get_or ws p 0, get_or ws (p + 1) 0) ∷ pairs_at ws j (p + 2)) fewer
          ∙ ap₂ (λ c d. (c, d) ∷ pairs_at ws (count - (i + 1)) (p + 2)) (sym e) (sym f)

      split : (name_in strings (name_of k a b) && names_in k strings (pairs_at ws (count - (i + 1)) (p + 2))) ≡ true
      unfolding names_in
      split = sym (ap (names_in k strings) first_pair) ∙ x.names

      pub marking_name : name_in strings name ≡ true
      marking_name = ap (name_in strings) g
          ∙ and_first (name_in strings (name_of k a b)) (names_in k strings (pairs_at ws (count - (i + 1)) (p + 2))) split

      pub marking_next : {r s : Bool} {u : List ℕ} → r ≡ is_new v base w name → u ≡ put_mark v base w name → s ≡ (new && r) →
          Marking k v base strings n ws w₀ count from u (i + 1) (p + 2) s
      unfolding are_new put_marks
      marking_next {r} {s} {u} m j q =
          let jn : u ≡ put_mark v base w (name_of k a b) = j ∙ ap (put_mark v base w) g in
          let rn : r ≡ is_new v base w (name_of k a b) = m ∙ ap (is_new v base w) g in
          record {
            inside = omega (arith, x.inside);
            len = ap length j ∙ length_put_mark v base w name ∙ x.len;
            names = and_second (name_in strings (name_of k a b)) (names_in k strings (pairs_at ws (count - (i + 1)) (p + 2))) split;
            news = x.news ∙ ap (λ l. new && are_new k v base w l) first_pair
                ∙ ap₂ (λ y z. new && (y && are_new k v base z (pairs_at ws (count - (i + 1)) (p + 2)))) (sym rn) (sym jn)
                ∙ assoc new r (are_new k v base u (pairs_at ws (count - (i + 1)) (p + 2)))
                ∙ ap (λ y. y && are_new k v base u (pairs_at ws (count - (i + 1)) (p + 2))) (sym q);
            puts = x.puts ∙ ap (put_marks k v base w) first_pair
                ∙ ap (λ z. put_marks k v base z (pairs_at ws (count - (i + 1)) (p + 2))) (sym jn);
          }
        where
          assoc : (x y z : Bool) → (x && (y && z)) ≡ ((x && y) && z)
          assoc true y z = refl
          assoc false y z = refl
