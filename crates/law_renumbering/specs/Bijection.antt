-- A renumbering and its way back.
use Rattle.std.specs.Prelude.{◌≡◌, refl, Bool, true, false, not, ◌&&◌, ◌||◌, List, [], ◌∷◌, T, eqb, ltb, length, get_or}
use Rattle.std.proofs.Common.{sym, ◌∙◌, arith, eqb→eq, ltb→lt, lt-ltb, le-ltb}
use Rattle.std.proofs.Math.Path.{ap}
use Rattle.std.proofs.Math.Bool.{cond}
use Prim.Native.Nat.{ℕ, zero, suc, ◌+◌, ◌≤◌, ◌<◌}
use Rattle.std.proofs.Math.Decide.{ℕ_discrete, dec_lt}
use Rattle.std.proofs.Math.Dec.{eqb_refl}
use Rattle.std.proofs.lemmas.List.{length-map}
use Rattle.std.proofs.Math.ListN.{get_or-eq_default}
use Rattle.lists.specs.Lists.{all_of, contains, distinct, from}
use Rattle.lists.specs.ListLaws.{T_true, and_t, length_from, get_d_other}
use Rattle.law_counting.specs.Counting.{tick, count, sum, place, tick_is, tick_not, place_in, get_d_place, length_by_counts}
use Rattle.law_counting.specs.Places.{map_from_at}
use Rattle.sheet.specs.Module.{TypeDef, coroutine, type_at}
use Rattle.renumber.specs.Renumber.{is_renumbering, image, origin, type_image, types_image}
use Rattle.sheet.specs.TypeLaws.{type_out}

-- π and ρ undo one another; numbers below n go below n, others stay
pub record Bijection (n : ℕ) (π ρ : ℕ → ℕ) : Type 0 where
  pub back : (t : ℕ) → ρ (π t) ≡ t
  pub forth : (t : ℕ) → π (ρ t) ≡ t
  pub below : (t : ℕ) → t < n → π t < n
  pub above : (t : ℕ) → n ≤ t → π t ≡ t

-- ── lists with no member twice ──

absent : (x : ℕ) (l : List ℕ) → T (not (contains l x)) → count x l ≡ 0
absent x [] h = refl
absent x (y ∷ l) h = go (eqb x y) h (absent x l)
  where
    go : (b : Bool) → T (not (b || contains l x)) → (T (not (contains l x)) → count x l ≡ 0) → tick b + count x l ≡ 0
    go true h ih = absurd h
    go false h ih = omega (arith, ih h)

distinct_parts : (x : ℕ) (l : List ℕ) → T (distinct (x ∷ l)) → (count x l ≡ 0) × T (distinct l)
distinct_parts x l h = let k = (and_t (not (contains l x)) (distinct l)).0 h in (absent x l k.0, k.1)

at_most_once : (l : List ℕ) → T (distinct l) → (y : ℕ) → count y l ≤ 1
at_most_once [] h y = omega arith
at_most_once (x ∷ l) h y = let k = distinct_parts x l h in go (ℕ_discrete y x) k.0 (at_most_once l k.1 y)
  where
    go : Dec (y ≡ x) → count x l ≡ 0 → count y l ≤ 1 → count y (x ∷ l) ≤ 1
    go (yes e) z ih = omega (arith, tick_is y x e, ap (λ (k : ℕ). count k l) e)
    go (no e) z ih = omega (arith, tick_not y x e)

member_count : (l : List ℕ) (i d : ℕ) → i < length l → 1 ≤ count (get_or l i d) l
member_count [] i d h = absurd (omega arith)
member_count (x ∷ l) zero d h = omega (arith, tick_is x x refl)
member_count (x ∷ l) (suc i) d h = omega (arith, member_count l i d (omega arith))

place_get_d : (l : List ℕ) → T (distinct l) → (i d : ℕ) → i < length l → place (get_or l i d) l ≡ i
place_get_d [] u i d h = absurd (omega arith)
place_get_d (x ∷ l) u zero d h = ap (λ (b : Bool). cond b 0 (suc (place x l))) (T_true (eqb x x) (eqb_refl x))
place_get_d (x ∷ l) u (suc i) d h =
    let k = distinct_parts x l u in
    go (eqb (get_or l i d) x) (eqb→eq (get_or l i d) x) k.0 (place_get_d l k.1 i d (omega arith))
  where
    go : (b : Bool) → (T b → get_or l i d ≡ x) → count x l ≡ 0 → place (get_or l i d) l ≡ i → cond b 0 (suc (place (get_or l i d) l)) ≡ suc i
    go true e z ih = absurd (omega (arith, member_count l i d (omega arith), ap (λ (k : ℕ). count k l) (e tt)))
    go false e z ih = ap suc ih

all_below : (n : ℕ) (l : List ℕ) → T (all_of (λ i. ltb i n) l) → (y : ℕ) → 1 ≤ count y l → y < n
all_below n [] h y k = absurd (omega arith)
all_below n (x ∷ l) h y k = let p = (and_t (ltb x n) (all_of (λ i. ltb i n) l)).0 h in go (ℕ_discrete y x) (ltb→lt x n p.0) (all_below n l p.1 y)
  where
    go : Dec (y ≡ x) → x < n → (1 ≤ count y l → y < n) → y < n
    go (yes e) a ih = omega arith
    go (no e) a ih = ih (omega (arith, tick_not y x e))

-- ── as many as there can be ──

sum_most : (g : ℕ → ℕ) → ((y : ℕ) → g y ≤ 1) → (k m : ℕ) → sum g (from k m) ≤ m
sum_most g h k zero = omega arith
sum_most g h k (suc m) = omega (arith, h k, sum_most g h (suc k) m)

sum_full : (g : ℕ → ℕ) → ((y : ℕ) → g y ≤ 1) → (k m : ℕ) → sum g (from k m) ≡ m → (y : ℕ) → k ≤ y → y < k + m → g y ≡ 1
sum_full g h k zero e y a b = absurd (omega arith)
sum_full g h k (suc m) e y a b = go (ℕ_discrete y k) (λ q c d. sum_full g h (suc k) m q y c d)
  where
    go : Dec (y ≡ k) → (sum g (from (suc k) m) ≡ m → suc k ≤ y → y < suc k + m → g y ≡ 1) → g y ≡ 1
    go (yes q) ih = omega (arith, h k, sum_most g h (suc k) m, ap g q)
    go (no q) ih = ih (omega (arith, h k, sum_most g h (suc k) m)) (omega arith) (omega arith)

-- ── a renumbering ──

pub record Listed (n : ℕ) (r : List ℕ) : Type 0 where
  pub size : length r ≡ n
  pub inside : (y : ℕ) → 1 ≤ count y r → y < n
  pub unique : T (distinct r)

pub listed : (n : ℕ) (r : List ℕ) → T (is_renumbering n r) → Listed n r
unfolding is_renumbering
listed n r h =
    let p = (and_t (eqb (length r) n && all_of (λ i. ltb i n) r) (distinct r)).0 h in
    let q = (and_t (eqb (length r) n) (all_of (λ i. ltb i n) r)).0 p.0 in
    record { size = eqb→eq (length r) n q.0; inside = all_below n r q.1; unique = p.1 }

-- the number with image t, and t where there is none
unfoldable pub origins : List ℕ → ℕ → ℕ
origins r t = cond (ltb t (length r)) (origin r t) t

module _ (n : ℕ) (r : List ℕ) (l : Listed n r) where
  once : (y : ℕ) → y < n → count y r ≡ 1
  once y h = sum_full (λ x. count x r) (at_most_once r l.unique) 0 n (sym (length_by_counts n r l.inside) ∙ l.size) y (omega arith) (omega arith)

  image_below : (t : ℕ) → t < n → image r t < n
  unfolding image
  image_below t h = l.inside (get_or r t t) (member_count r t t (omega (arith, l.size)))

  image_above : (t : ℕ) → n ≤ t → image r t ≡ t
  unfolding image
  image_above t h = get_or-eq_default r t (omega (arith, l.size))

  pub origin_image : (t : ℕ) → t < n → origin r (image r t) ≡ t
  unfolding image origin
  origin_image t h = place_get_d r l.unique t t (omega (arith, l.size))

  origin_below : (t : ℕ) → t < n → origin r t < n
  unfolding origin
  origin_below t h = omega (arith, place_in t r (omega (arith, once t h)), l.size)

  image_origin : (t : ℕ) → t < n → image r (origin r t) ≡ t
  unfolding image origin
  image_origin t h =
      let k : 1 ≤ count t r = omega (arith, once t h) in
      get_d_other r (place t r) (place t r) 0 (place_in t r k) ∙ get_d_place t r k

  origins_below : (t : ℕ) → t < n → origins r t ≡ origin r t
  unfolding origins
  origins_below t h = ap (λ (b : Bool). cond b (origin r t) t) (lt-ltb t (length r) (omega (arith, l.size)))

  origins_above : (t : ℕ) → n ≤ t → origins r t ≡ t
  unfolding origins
  origins_above t h = ap (λ (b : Bool). cond b (origin r t) t) (le-ltb t (length r) (omega (arith, l.size)))

  back_at : (t : ℕ) → Dec (t < n) → origins r (image r t) ≡ t
  back_at t (yes h) = origins_below (image r t) (image_below t h) ∙ origin_image t h
  back_at t (no h) = let k : n ≤ t = omega arith in ap (origins r) (image_above t k) ∙ origins_above t k

  forth_at : (t : ℕ) → Dec (t < n) → image r (origins r t) ≡ t
  forth_at t (yes h) = ap (image r) (origins_below t h) ∙ image_origin t h
  forth_at t (no h) = let k : n ≤ t = omega arith in ap (image r) (origins_above t k) ∙ image_above t k

  pub bijection : Bijection n (image r) (origins r)
  bijection = record { back = λ t. back_at t (dec_lt t n); forth = λ t. forth_at t (dec_lt t n); below = image_below; above = image_above }

-- ── the types moved ──

pub types_size : (r : List ℕ) (types : List TypeDef) → length (types_image r types) ≡ length types
unfolding types_image
types_size r types = length-map (from 0 (length types)) (λ t. type_image (image r) (type_at types (origin r t))) ∙ length_from 0 (length types)

module _ (r : List ℕ) (types : List TypeDef) (l : Listed (length types) r) where
  -- type t stands at its image, with its mentions as images; of unknown numbers too
  pub type_moved : (t : ℕ) → type_at (types_image r types) (image r t) ≡ type_image (image r) (type_at types t)
  unfolding types_image type_at type_image
  type_moved t = go (dec_lt t (length types))
    where
      f : ℕ → TypeDef
      f = λ t. type_image (image r) (type_at types (origin r t))

      go : Dec (t < length types) → type_at (types_image r types) (image r t) ≡ type_image (image r) (type_at types t)
      go (yes h) =
          map_from_at f coroutine (length types) (image r t) ((bijection (length types) r l).below t h)
          ∙ ap (λ (i : ℕ). type_image (image r) (type_at types i)) (origin_image (length types) r l t h)
      go (no h) =
          let k : length types ≤ t = omega arith in
          ap (type_at (types_image r types)) ((bijection (length types) r l).above t k)
          ∙ type_out (types_image r types) t (rw (types_size r types) k)
          ∙ sym (ap (type_image (image r)) (type_out types t k))
