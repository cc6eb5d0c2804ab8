-- Nearest common ancestors in any forest. `d t a` says that t descends from a.
use Rattle.std.specs.Prelude.{ℕ, ◌≤◌, ◌<◌, ◌⊎◌, ◌↔◌, Bool, true, false, cond, ◌&&◌, Option, None, Some, option_map, option_and_then}
use Rattle.std.proofs.Math.Path.{◌≡◌, refl, ap, subst}
use Rattle.std.proofs.Common.{sym, ◌∙◌, inl, inr, arith}
use Rattle.std.proofs.Math.Decide.{ℕ_discrete}
use Rattle.std.proofs.Math.Dec.{T}
use Rattle.lists.specs.Lists.{from, keep}
use Rattle.lists.specs.Best.{best}
use Rattle.lists.specs.ListLaws.{and_t}
use Rattle.law_counting.specs.Counting.{count, count_from}
use Rattle.law_counting.specs.Kept.{count_keep}
use Rattle.law_counting.specs.BestLaws.{Ranks, IsBest, best_is}

-- who descends at all is of its own family; the families of one are on one line
pub record Descent (d : ℕ → ℕ → Bool) : Type 0 where
  pub lower : (t a : ℕ) → T (d t a) → T (d t t)
  pub upper : (t a : ℕ) → T (d t a) → T (d a a)
  pub through : (t a b : ℕ) → T (d t a) → T (d a b) → T (d t b)
  pub line : (t a b : ℕ) → T (d t a) → T (d t b) → T (d a b) ⊎ T (d b a)
  pub same : (a b : ℕ) → T (d a b) → T (d b a) → a ≡ b

-- none where no number has P; else one with P that descends from every other with P
unfoldable pub IsNearest : (ℕ → ℕ → Bool) → (ℕ → Type 0) → Option ℕ → Type 0
IsNearest d P None = (x : ℕ) → P x → ⊥
IsNearest d P (Some f) = P f × ((x : ℕ) → P x → T (d f x))

-- a common ancestor of two
abbrev pub Common : (ℕ → ℕ → Bool) → ℕ → ℕ → ℕ → Type 0
Common d t u x = T (d t x) × T (d u x)

-- ── tests ──

cond_pos : (b : Bool) (n : ℕ) → 1 ≤ cond b n 0 → T b
cond_pos true n h = tt
cond_pos false n h = absurd (omega arith)

cond_is : (b : Bool) (n : ℕ) → T b → cond b n 0 ≡ n
cond_is true n h = refl
cond_is false n h = absurd h

module _ (d : ℕ → ℕ → Bool) (o : Descent d) where
  -- there is one answer
  pub nearest_one : (P : ℕ → Type 0) (p q : Option ℕ) → IsNearest d P p → IsNearest d P q → p ≡ q
  unfolding IsNearest
  nearest_one P None None a b = refl
  nearest_one P None (Some g) a b = absurd (a g b.0)
  nearest_one P (Some f) None a b = absurd (b f a.0)
  nearest_one P (Some f) (Some g) a b = ap Some (o.same f g (a.1 g b.0) (b.1 f a.0))

  -- ── laws ──

  -- for what holds of the same numbers
  pub nearest_also : (P Q : ℕ → Type 0) → ((x : ℕ) → P x ↔ Q x) → (p : Option ℕ) → IsNearest d P p → IsNearest d Q p
  unfolding IsNearest
  nearest_also P Q e None h = λ x q. h x ((e x).1 q)
  nearest_also P Q e (Some f) h = ((e f).0 h.0, λ x q. h.1 x ((e x).1 q))

  pub turned : (t u : ℕ) (p : Option ℕ) → IsNearest d (Common d t u) p → IsNearest d (Common d u t) p
  turned t u p h = nearest_also (Common d t u) (Common d u t) (λ x. (λ k. (k.1, k.0), λ k. (k.1, k.0))) p h

  pub with_itself : (t : ℕ) → T (d t t) → IsNearest d (Common d t t) (Some t)
  unfolding IsNearest
  with_itself t h = ((h, h), λ x k. k.0)

  -- the nearest of the nearest of two and a third is that of all three; none swallows all
  pub grouped : (t u v : ℕ) (near : ℕ → Option ℕ) → ((f : ℕ) → IsNearest d (Common d f v) (near f)) →
      (p : Option ℕ) → IsNearest d (Common d t u) p → IsNearest d (λ x. Common d t u x × T (d v x)) (option_and_then near p)
  unfolding IsNearest
  grouped t u v near h None k = λ x a. k x a.0
  grouped t u v near h (Some f) k = joined (near f) (h f)
    where
      joined : (q : Option ℕ) → IsNearest d (Common d f v) q → IsNearest d (λ x. Common d t u x × T (d v x)) q
      joined None e = λ x a. e x (k.1 x a.0, a.1)
      joined (Some g) e = (
        ((o.through t f g k.0.0 e.0.0, o.through u f g k.0.1 e.0.0), e.0.1),
        λ x a. e.1 x (k.1 x a.0, a.1),
      )

  -- both descend from a given family exactly where their nearest family exists and descends from it
  pub both_from : (t u a : ℕ) (p : Option ℕ) → IsNearest d (Common d t u) p → Common d t u a ↔ ((f : ℕ) × (p ≡ Some f) × T (d f a))
  unfolding IsNearest
  both_from t u a None h = (λ k. absurd (h a k), λ k. let e = k.1 in let z : ◌≡◌ {A = ℕ} 0 1 = cc in absurd (omega arith))
  both_from t u a (Some f) h = (
    λ k. (f, refl, h.1 a k),
    λ k.
        let e = k.1 in
        let q : f ≡ k.0 = cc in
        let s = subst (λ y. T (d y a)) (sym q) k.2 in
        (o.through t f a h.0.0 s, o.through u f a h.0.1 s),
  )

  -- ── the best by a measure that rises or falls along every line is the nearest ──

  module _ (beats : ℕ → ℕ → Bool) (r : Ranks beats) (strict : (a b : ℕ) → T (d a b) → (a ≡ b → ⊥) → beats a b ≡ true)
      (n : ℕ) (known : (t a : ℕ) → T (d t a) → a < n) (t u : ℕ) where
    abbrev common : ℕ → Bool
    common a = d t a && d u a

    common_in : (x : ℕ) → Common d t u x → 1 ≤ count x (keep common (from 0 n))
    common_in x k = omega (
      arith,
      count_keep common x (from 0 n),
      cond_is (common x) (count x (from 0 n)) ((and_t (d t x) (d u x)).1 k),
      count_from x 0 n (omega arith) (omega (arith, known t x k.0)),
    )

    in_common : (x : ℕ) → 1 ≤ count x (keep common (from 0 n)) → Common d t u x
    in_common x k = (and_t (d t x) (d u x)).0 (cond_pos (common x) (count x (from 0 n)) (rw (count_keep common x (from 0 n)) at k))

    no_worse : (f x : ℕ) → T (d t f) → T (d t x) → beats x f ≡ false → T (d f x)
    no_worse f x a b e = go (o.line t f x a b) (ℕ_discrete x f)
      where
        go : T (d f x) ⊎ T (d x f) → Dec (x ≡ f) → T (d f x)
        go (inl h) q = h
        go (inr h) (yes q) = subst (λ y. T (d f y)) (sym q) (o.upper t f a)
        go (inr h) (no q) = let z : true ≡ false = sym (strict x f h q) ∙ e in let w : ◌≡◌ {A = ℕ} 0 1 = cc in absurd (omega arith)

    best_nearest : (p : Option ℕ) → IsBest beats (keep common (from 0 n)) p → IsNearest d (Common d t u) p
    unfolding IsBest IsNearest
    best_nearest None h = λ x k. absurd (omega (arith, h x, common_in x k))
    best_nearest (Some f) h =
        let m = in_common f h.0 in
        (m, λ x k. no_worse f x m.0 k.0 (h.1 x (common_in x k)))

    pub nearest_is : IsNearest d (Common d t u) (best beats (keep common (from 0 n)))
    nearest_is = best_nearest (best beats (keep common (from 0 n))) (best_is beats r (keep common (from 0 n)))

-- ── two forests that differ by one renumbering ──

module _ (d e : ℕ → ℕ → Bool) (π ρ : ℕ → ℕ) (forth : (x : ℕ) → π (ρ x) ≡ x) (alike : (t a : ℕ) → d t a ≡ e (π t) (π a)) where
  there : (t a : ℕ) → T (d t a) → T (e (π t) (π a))
  there t a h = subst T (alike t a) h

  back : (t x : ℕ) → T (e (π t) x) → T (d t (ρ x))
  back t x h = subst T (sym (alike t (ρ x))) (subst (λ y. T (e (π t) y)) (sym (forth x)) h)

  pub nearest_moved : (t u : ℕ) (p : Option ℕ) → IsNearest d (Common d t u) p → IsNearest e (Common e (π t) (π u)) (option_map π p)
  unfolding IsNearest
  nearest_moved t u None h = λ x k. h (ρ x) (back t x k.0, back u x k.1)
  nearest_moved t u (Some f) h = (
    (there t f h.0.0, there u f h.0.1),
    λ x k. subst (λ y. T (e (π f) y)) (forth x) (there f (ρ x) (h.1 (ρ x) (back t x k.0, back u x k.1))),
  )
