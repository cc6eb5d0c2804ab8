-- The members of a list that pass a test: how many there are.
use Rattle.std.specs.Prelude.{ℕ, zero, suc, ◌+◌, ◌*◌, ◌≤◌, ◌<◌, ◌≡◌, refl, List, [], ◌∷◌, ◌++◌, Bool, true, false, cond, eqb, length, get_or}
use Rattle.std.proofs.Common.{sym, ap, ◌∙◌, arith, mul-suc}
use Rattle.std.proofs.Math.Decide.{ℕ_discrete}
use Rattle.lists.specs.Lists.{concat_map, from, keep, places_from, sum}
use Rattle.law_counting.specs.Counting.{tick, count, tick_not}
use Rattle.law_counting.specs.Sums.{length_by_places}

-- a number that passes stands as often as before, another not at all
pub count_keep : (p : ℕ → Bool) (x : ℕ) (l : List ℕ) → count x (keep p l) ≡ cond (p x) (count x l) 0
count_keep p x [] = none_left (p x)
  where
    none_left : (b : Bool) → ◌≡◌ {A = ℕ} 0 (cond b 0 0)
    none_left true = refl
    none_left false = refl
count_keep p x (y ∷ l) = go (p x) (p y) refl refl (ℕ_discrete x y) (count_keep p x l)
  where
    differ : {A : Type 0} → x ≡ y → p x ≡ true → p y ≡ false → A
    differ q e f = let z : true ≡ false = sym e ∙ ap p q ∙ f in let w : ◌≡◌ {A = ℕ} 0 1 = cc in absurd (omega arith)

    differ_back : {A : Type 0} → x ≡ y → p x ≡ false → p y ≡ true → A
    differ_back q e f = let z : true ≡ false = sym f ∙ ap p (sym q) ∙ e in let w : ◌≡◌ {A = ℕ} 0 1 = cc in absurd (omega arith)

    go : (a b : Bool) → p x ≡ a → p y ≡ b → Dec (x ≡ y) → count x (keep p l) ≡ cond (p x) (count x l) 0 →
        count x (cond (p y) (y ∷ keep p l) (keep p l)) ≡ cond (p x) (tick (eqb x y) + count x l) 0
    go true true e f d ih = rw (e, f) (omega (arith, rw e at ih))
    go true false e f (yes q) ih = differ q e f
    go true false e f (no q) ih = rw (e, f) (omega (arith, tick_not x y q, rw e at ih))
    go false true e f (yes q) ih = differ_back q e f
    go false true e f (no q) ih = rw (e, f) (omega (arith, tick_not x y q, rw e at ih))
    go false false e f d ih = rw (e, f) (omega (arith, rw e at ih))

pub length_keep : (p : ℕ → Bool) (l : List ℕ) → length (keep p l) ≡ sum (λ x. tick (p x)) l
length_keep p [] = refl
length_keep p (y ∷ l) = go (p y) (length_keep p l)
  where
    go : (b : Bool) → length (keep p l) ≡ sum (λ x. tick (p x)) l →
        length (cond b (y ∷ keep p l) (keep p l)) ≡ tick b + sum (λ x. tick (p x)) l
    go true ih = omega arith
    go false ih = omega arith

-- the members of any list that pass, by their places
pub length_kept : {A : Type 0} (p : A → Bool) (d : A) (xs : List A) →
    length (keep p xs) ≡ sum (λ t. tick (p (get_or xs t d))) (from 0 (length xs))
length_kept {A} p d xs = ap length (as_concat xs) ∙ length_by_places one d xs ∙ ticks (from 0 (length xs))
  where
    one : A → List A
    one x = cond (p x) (x ∷ []) []

    as_concat : (xs : List A) → keep p xs ≡ concat_map one xs
    as_concat [] = refl
    as_concat (x ∷ xs) = go (p x) (as_concat xs)
      where
        go : (b : Bool) → keep p xs ≡ concat_map one xs → cond b (x ∷ keep p xs) (keep p xs) ≡ (cond b (x ∷ []) []) ++ concat_map one xs
        go true e = ap (λ l. x ∷ l) e
        go false e = e

    ticks : (l : List ℕ) → sum (λ t. length (one (get_or xs t d))) l ≡ sum (λ t. tick (p (get_or xs t d))) l
    ticks [] = refl
    ticks (t ∷ l) = go (p (get_or xs t d)) (ticks l)
      where
        go : (b : Bool) → sum (λ t. length (one (get_or xs t d))) l ≡ sum (λ t. tick (p (get_or xs t d))) l →
            length (cond b (get_or xs t d ∷ []) []) + sum (λ t. length (one (get_or xs t d))) l ≡ tick b + sum (λ t. tick (p (get_or xs t d))) l
        go true e = omega arith
        go false e = omega arith

-- as many places as members
pub places_kept : {A : Type 0} (p : A → Bool) (k : ℕ) (xs : List A) → length (places_from k p xs) ≡ length (keep p xs)
places_kept p k [] = refl
places_kept p k (x ∷ xs) = go (p x) (places_kept p (suc k) xs)
  where
    go : (b : Bool) → length (places_from (suc k) p xs) ≡ length (keep p xs) →
        length (cond b (k ∷ places_from (suc k) p xs) (places_from (suc k) p xs)) ≡ length (cond b (x ∷ keep p xs) (keep p xs))
    go true e = ap suc e
    go false e = e

pub kept_few : {A : Type 0} (p : A → Bool) (xs : List A) → length (keep p xs) ≤ length xs
kept_few p [] = omega arith
kept_few p (x ∷ xs) = go (p x) (kept_few p xs)
  where
    go : (b : Bool) → length (keep p xs) ≤ length xs → length (cond b (x ∷ keep p xs) (keep p xs)) ≤ suc (length xs)
    go true h = omega arith
    go false h = omega arith

-- none is kept where none passes
pub keep_none : {A : Type 0} (p : A → Bool) → ((x : A) → p x ≡ false) → (l : List A) → keep p l ≡ []
keep_none p h [] = refl
keep_none p h (x ∷ l) = ap (λ b. cond b (x ∷ keep p l) (keep p l)) (h x) ∙ keep_none p h l

-- a sum of few is few
pub sum_few : (g : ℕ → ℕ) (n : ℕ) → ((x : ℕ) → g x ≤ n) → (l : List ℕ) → sum g l ≤ n * length l
sum_few g n h [] = omega arith
sum_few g n h (x ∷ l) = omega (arith, h x, sum_few g n h l, mul-suc n (length l))

-- ── numbers that pass ──

-- from i numbers on none passes
pub kept_past : (q : ℕ → Bool) (k i n : ℕ) → i ≤ n → ((t : ℕ) → k + i ≤ t → q t ≡ false) → keep q (from k n) ≡ keep q (from k i)
kept_past q k zero zero l h = refl
kept_past q k zero (suc n) l h =
    ap (λ b. cond b (k ∷ keep q (from (suc k) n)) (keep q (from (suc k) n))) (h k (omega arith))
    ∙ kept_past q (suc k) zero n (omega arith) (λ t g. h t (omega arith))
kept_past q k (suc i) zero l h = absurd (omega arith)
kept_past q k (suc i) (suc n) l h = ap (λ l. cond (q k) (k ∷ l) l) (kept_past q (suc k) i n (omega arith) (λ t g. h t (omega arith)))

-- the places of members that pass are the numbers of which q says it
pub kept_places : {A : Type 0} (p : A → Bool) (d : A) (q : ℕ → Bool) (k : ℕ) (xs : List A) →
    ((i : ℕ) → i < length xs → q (k + i) ≡ p (get_or xs i d)) → places_from k p xs ≡ keep q (from k (length xs))
kept_places p d q k [] h = refl
kept_places p d q k (x ∷ xs) h =
    let e : q k ≡ p x = let z : k ≡ k + 0 = omega arith in ap q z ∙ h 0 (omega arith) in
    let f = kept_places p d q (suc k) xs (λ i l. let z : suc k + i ≡ k + suc i = omega arith in ap q z ∙ h (suc i) (omega arith)) in
    ap (λ l. cond (p x) (k ∷ l) l) f ∙ ap (λ b. cond b (k ∷ keep q (from (suc k) (length xs))) (keep q (from (suc k) (length xs)))) (sym e)

pub concat_map_keep : {A B : Type 0} (q : A → Bool) (g : A → List B) (l : List A) →
    concat_map g (keep q l) ≡ concat_map (λ t. cond (q t) (g t) []) l
concat_map_keep q g [] = refl
concat_map_keep {A} {B} q g (x ∷ l) = go (q x) (concat_map_keep q g l)
  where
    go : (b : Bool) → concat_map g (keep q l) ≡ concat_map (λ t. cond (q t) (g t) []) l →
        concat_map g (cond b (x ∷ keep q l) (keep q l)) ≡ cond b (g x) [] ++ concat_map (λ t. cond (q t) (g t) []) l
    go true e = ap (λ k. g x ++ k) e
    go false e = e

pub sum_keep : {A : Type 0} (q : A → Bool) (g : A → ℕ) (l : List A) → sum g (keep q l) ≡ sum (λ t. cond (q t) (g t) 0) l
sum_keep q g [] = refl
sum_keep q g (x ∷ l) = go (q x) (sum_keep q g l)
  where
    go : (b : Bool) → sum g (keep q l) ≡ sum (λ t. cond (q t) (g t) 0) l →
        sum g (cond b (x ∷ keep q l) (keep q l)) ≡ cond b (g x) 0 + sum (λ t. cond (q t) (g t) 0) l
    go true e = ap (λ k. g x + k) e
    go false e = e ∙ omega arith
