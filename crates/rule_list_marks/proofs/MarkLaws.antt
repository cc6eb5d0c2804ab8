-- Marks of names: each is new exactly if no name stands twice, and cleared marks are as they were.
use Prim.Native.Nat.{ℕ, ◌+◌, ◌≤◌, ◌<◌}
use mathlib.Core.Path.{◌≡◌, refl, sym, ap, ap₂, ◌∙◌}
use mathlib.Core.List.{List, [], ◌∷◌, ◌++◌}
use mathlib.Core.Bool.{Bool, true, false, cond, not, ◌&&◌, ◌||◌}
use native.Mathlib.Omega.{arith}
use lib.Dec.{eqb, ltb}
use lib.ListN.{length, get_or, set, length-set}
use lib.Seq.{get_or-set_other, get_or-set_same, ext_get_or}
use borrow.Author.Tests.{ltb-true, eqb-true, eqb-false}
use Rattle.lists.specs.Lists.{all_of, any_of, contains, distinct}
use Rattle.lists.specs.ListLaws.{both, and_first, and_second}
use Rattle.rule_list_members.specs.declared.ListKind.{ListKind}
use Rattle.error.specs.declared.StrId.{StrId}
use Rattle.std.specs.Prelude.{Option, None, Some}
use Rattle.rule_list_members.specs.Members.{name_of, name_in, member_holds, members_hold, is_listed, is_in_order, late_after}
use Rattle.rule_list_marks.specs.Marks.{named, names_of, names_distinct, put_mark, is_new, put_marks, are_new, names_in}

-- ── over a list of names ──

abbrev pub below : ℕ → List ℕ → Bool
below n xs = all_of (λ s. ltb s n) xs

abbrev pub put_all : ℕ → ℕ → List ℕ → List ℕ → List ℕ
put_all v base w [] = w
put_all v base w (x ∷ xs) = put_all v base (set w (base + x) v) xs

abbrev pub new_all : ℕ → ℕ → List ℕ → List ℕ → Bool
new_all v base w [] = true
new_all v base w (x ∷ xs) = not (eqb (get_or w (base + x) 0) v) && new_all v base (set w (base + x) v) xs

module _ (v base : ℕ) where
  pub length_put_all : (w xs : List ℕ) → length (put_all v base w xs) ≡ length w
  length_put_all w [] = refl
  length_put_all w (x ∷ xs) = length_put_all (set w (base + x) v) xs ∙ length-set w (base + x) v

  -- a mark of one of the names, or another word
  pub at_put_all : (n : ℕ) (w xs : List ℕ) (i : ℕ) → base + n ≤ length w → below n xs ≡ true → get_or (put_all v base w xs) i 0 ≡ cond (any_of (λ s. eqb (base + s) i) xs) v (get_or w i 0)
  at_put_all n w [] i h b = refl
  at_put_all n w (x ∷ xs) i h b =
      at_put_all n (set w (base + x) v) xs i (omega (arith, length-set w (base + x) v)) (and_second (ltb x n) (below n xs) b)
      ∙ go (eqb (base + x) i) refl (any_of (λ s. eqb (base + s) i) xs)
    where
      go : (t : Bool) → eqb (base + x) i ≡ t → (u : Bool) → cond u v (get_or (set w (base + x) v) i 0) ≡ cond (t || u) v (get_or w i 0)
      go t e true = cond_same t
        where
          cond_same : (t : Bool) → v ≡ cond (t || true) v (get_or w i 0)
          cond_same true = refl
          cond_same false = refl
      go true e false =
          let z : base + x ≡ i = eqb-true (base + x) i e in
          let l : base + x < length w = omega (arith, ltb-true x n (and_first (ltb x n) (below n xs) b)) in
          ap (λ k. get_or (set w (base + x) v) k 0) (sym z) ∙ get_or-set_same w (base + x) v 0 l
      go false e false = get_or-set_other w (base + x) i v 0 (λ z. eqb-false (base + x) i e (sym z))

-- ── each mark is new exactly if no name stands twice ──

-- the names whose marks are not 1
abbrev unmarked : ℕ → List ℕ → ℕ → Bool
unmarked base w s = not (eqb (get_or w (base + s) 0) 1)

module _ (base n : ℕ) where
  others : (w : List ℕ) (x : ℕ) (xs : List ℕ) → base + n ≤ length w → x < n → all_of (unmarked base (set w (base + x) 1)) xs ≡ (not (contains xs x) && all_of (unmarked base w) xs)
  others w x [] h l = refl
  others w x (y ∷ ys) h l = ap₂ ◌&&◌ (here (eqb x y) refl) (others w x ys h l) ∙ mix (eqb x y) (contains ys x) (unmarked base w y) (all_of (unmarked base w) ys)
    where
      here : (t : Bool) → eqb x y ≡ t → unmarked base (set w (base + x) 1) y ≡ (not t && unmarked base w y)
      here true e =
          let z : x ≡ y = eqb-true x y e in
          ap (λ k. not (eqb (get_or (set w (base + x) 1) (base + k) 0) 1)) (sym z) ∙ ap (λ k. not (eqb k 1)) (get_or-set_same w (base + x) 1 0 (omega arith))
      here false e =
          let d : base + y ≡ base + x → ⊥ = λ z. eqb-false x y e (omega arith) in
          ap (λ k. not (eqb k 1)) (get_or-set_other w (base + x) (base + y) 1 0 d)

      mix : (t c u a : Bool) → ((not t && u) && (not c && a)) ≡ (not (t || c) && (u && a))
      mix true c u a = refl
      mix false c true a = refl
      mix false true false a = refl
      mix false false false a = refl

  new_all_lem : (w xs : List ℕ) → base + n ≤ length w → below n xs ≡ true → new_all 1 base w xs ≡ (all_of (unmarked base w) xs && distinct xs)
  new_all_lem w [] h b = refl
  new_all_lem w (x ∷ xs) h b =
      ap (λ y. unmarked base w x && y) (new_all_lem (set w (base + x) 1) xs (omega (arith, length-set w (base + x) 1)) (and_second (ltb x n) (below n xs) b)
      ∙ ap (λ y. y && distinct xs) (others w x xs h (ltb-true x n (and_first (ltb x n) (below n xs) b))))
      ∙ mix (unmarked base w x) (contains xs x) (all_of (unmarked base w) xs) (distinct xs)
    where
      mix : (u c a d : Bool) → (u && ((not c && a) && d)) ≡ ((u && a) && (not c && d))
      mix false c a d = refl
      mix true c true d = and_true (not c) d
        where
          and_true : (x y : Bool) → ((x && true) && y) ≡ (x && y)
          and_true true y = refl
          and_true false y = refl
      mix true true false d = refl
      mix true false false d = refl

  module _ (w : List ℕ) (h : base + n ≤ length w) (zeros : (s : ℕ) → s < n → get_or w (base + s) 0 ≡ 0) where
    all_unmarked : (xs : List ℕ) → below n xs ≡ true → all_of (unmarked base w) xs ≡ true
    all_unmarked [] b = refl
    all_unmarked (x ∷ xs) b =
        both (ap (λ k. not (eqb k 1)) (zeros x (ltb-true x n (and_first (ltb x n) (below n xs) b)))) (all_unmarked xs (and_second (ltb x n) (below n xs) b))

    pub new_distinct : (xs : List ℕ) → below n xs ≡ true → new_all 1 base w xs ≡ distinct xs
    new_distinct xs b = new_all_lem w xs h b ∙ ap (λ y. y && distinct xs) (all_unmarked xs b)

    -- ── set and cleared ──

    zero_at : (xs : List ℕ) (i : ℕ) → below n xs ≡ true → any_of (λ s. eqb (base + s) i) xs ≡ true → 0 ≡ get_or w i 0
    zero_at [] i b e = let z : ◌≡◌ {A = ℕ} 0 1 = cc in absurd (omega arith)
    zero_at (x ∷ xs) i b e = go (eqb (base + x) i) refl e (λ f. zero_at xs i (and_second (ltb x n) (below n xs) b) f)
      where
        go : (t : Bool) → eqb (base + x) i ≡ t → (t || any_of (λ s. eqb (base + s) i) xs) ≡ true → (any_of (λ s. eqb (base + s) i) xs ≡ true → 0 ≡ get_or w i 0) → 0 ≡ get_or w i 0
        go true f e ih = sym (ap (λ k. get_or w k 0) (sym (eqb-true (base + x) i f)) ∙ zeros x (ltb-true x n (and_first (ltb x n) (below n xs) b)))
        go false f e ih = ih e

    pub put_cleared : (xs : List ℕ) → below n xs ≡ true → put_all 0 base (put_all 1 base w xs) xs ≡ w
    put_cleared xs b =
        let l : length (put_all 0 base (put_all 1 base w xs) xs) ≡ length w = length_put_all 0 base (put_all 1 base w xs) xs ∙ length_put_all 1 base w xs in
        ext_get_or 0 (put_all 0 base (put_all 1 base w xs) xs) w l λ i k.
        at_put_all 0 base n (put_all 1 base w xs) xs i (omega (arith, length_put_all 1 base w xs)) b
        ∙ ap (λ y. cond (any_of (λ s. eqb (base + s) i) xs) 0 y) (at_put_all 1 base n w xs i h b)
        ∙ go i (any_of (λ s. eqb (base + s) i) xs) refl
      where
        go : (i : ℕ) (t : Bool) → any_of (λ s. eqb (base + s) i) xs ≡ t → cond t 0 (cond t 1 (get_or w i 0)) ≡ get_or w i 0
        go i true e = zero_at xs i b e
        go i false e = refl

-- ── over members ──

module _ (k : ListKind) where
  put_names : (v base : ℕ) (w : List ℕ) (xs : List (ℕ × ℕ)) → put_marks k v base w xs ≡ put_all v base w (names_of k xs)
  unfolding put_marks names_of
  put_names v base w [] = refl
  put_names v base w (x ∷ xs) = go (name_of k x.0 x.1) (λ u. put_names v base u xs)
    where
      go : (m : Option StrId) → ((u : List ℕ) → put_marks k v base u xs ≡ put_all v base u (names_of k xs)) → put_marks k v base (put_mark v base w m) xs ≡ put_all v base w (named m ++ names_of k xs)
      go None ih = unfold put_mark named in ih w
      go (Some s) ih = unfold put_mark named in ih (set w (base + s.0) v)

  new_names : (v base : ℕ) (w : List ℕ) (xs : List (ℕ × ℕ)) → are_new k v base w xs ≡ new_all v base w (names_of k xs)
  unfolding are_new names_of
  new_names v base w [] = refl
  new_names v base w (x ∷ xs) = go (name_of k x.0 x.1) (λ u. new_names v base u xs)
    where
      go : (m : Option StrId) → ((u : List ℕ) → are_new k v base u xs ≡ new_all v base u (names_of k xs)) → (is_new v base w m && are_new k v base (put_mark v base w m) xs) ≡ new_all v base w (named m ++ names_of k xs)
      go None ih = unfold put_mark is_new named in ih w
      go (Some s) ih = unfold put_mark is_new named in ap (λ y. not (eqb (get_or w (base + s.0) 0) v) && y) (ih (set w (base + s.0) v))

  pub in_names : (n : ℕ) (xs : List (ℕ × ℕ)) → names_in k n xs ≡ below n (names_of k xs)
  unfolding names_in names_of
  in_names n [] = refl
  in_names n (x ∷ xs) = go (name_of k x.0 x.1) (in_names n xs)
    where
      go : (m : Option StrId) → names_in k n xs ≡ below n (names_of k xs) → (name_in n m && names_in k n xs) ≡ below n (named m ++ names_of k xs)
      go None ih = unfold name_in named in ih
      go (Some s) ih = unfold name_in named in ap (λ y. ltb s.0 n && y) ih

  -- the names of members that hold are strings
  pub holds_names : (n : ℕ) (late : Bool) (xs : List (ℕ × ℕ)) → members_hold k n late xs ≡ true → names_in k n xs ≡ true
  unfolding members_hold names_in member_holds
  holds_names n late [] e = refl
  holds_names n late (x ∷ xs) e =
      let a = is_listed k x.0 in
      let b = is_in_order k late x.0 in
      let c = name_in n (name_of k x.0 x.1) in
      let rest = members_hold k n (late_after k late x.0) xs in
      both (and_second b c (and_second a (b && c) (and_first (a && (b && c)) rest e))) (holds_names n (late_after k late x.0) xs (and_second (a && (b && c)) rest e))

  module _ (base n : ℕ) (w : List ℕ) (h : base + n ≤ length w) (zeros : (s : ℕ) → s < n → get_or w (base + s) 0 ≡ 0) (xs : List (ℕ × ℕ)) (b : names_in k n xs ≡ true) where
    pub marks_new : are_new k 1 base w xs ≡ names_distinct k xs
    unfolding names_distinct
    marks_new = new_names 1 base w xs ∙ new_distinct base n w h zeros (names_of k xs) (sym (in_names n xs) ∙ b)

    pub marks_cleared : put_marks k 0 base (put_marks k 1 base w xs) xs ≡ w
    marks_cleared =
        put_names 0 base (put_marks k 1 base w xs) xs ∙ ap (λ u. put_all 0 base u (names_of k xs)) (put_names 1 base w xs)
        ∙ put_cleared base n w h zeros (names_of k xs) (sym (in_names n xs) ∙ b)

pub length_put_marks : (k : ListKind) (v base : ℕ) (w : List ℕ) (xs : List (ℕ × ℕ)) → length (put_marks k v base w xs) ≡ length w
length_put_marks k v base w xs = ap length (put_names k v base w xs) ∙ length_put_all v base w (names_of k xs)
