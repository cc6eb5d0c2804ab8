-- The search along links, and a free position taken.
use mathlib.Core.Path.{◌≡◌, refl, ap}
use Prim.Native.Nat.{ℕ, ◌+◌, ◌≤◌, ◌<◌}
use native.Mathlib.Omega.{arith}
use native.Mathlib.Decide.{dec_lt, ℕ_discrete}
use Rattle.table_catches.specs.Links.{Links, Alike, Found}

-- the search at q
pub record Finding (N M : ℕ → ℕ) (len p q : ℕ) : Type 0 where
  pub links : Links M len
  pub alike : Alike N M len
  pub from : p ≤ q
  pub to : q ≤ len
  pub passed : (x : ℕ) → p ≤ x → x < q → x < M x

pub alike_refl : (N : ℕ → ℕ) (len : ℕ) → Alike N N len
alike_refl N len = record { busy = λ q h k. k; back = λ q h k. k }

pub alike_trans : (N M K : ℕ → ℕ) (len : ℕ) → Alike N M len → Alike M K len → Alike N K len
alike_trans N M K len a b = record { busy = λ q h k. b.busy q h (a.busy q h k); back = λ q h k. a.back q h (b.back q h k) }

pub finding_start : (N : ℕ → ℕ) (len p : ℕ) → Links N len → p ≤ len → Finding N N len p p
finding_start N len p l h = record { links = l; alike = alike_refl N len; from = omega arith; to = h; passed = λ x a b. absurd (omega arith) }

pub finding_end : (N M : ℕ → ℕ) (len p q : ℕ) → Finding N M len p q → M q ≤ q → Found N M len p q
finding_end N M len p q f h = record { links = f.links; alike = f.alike; from = f.from; to = f.to; free = omega (arith, f.links.up q f.to); passed = f.passed }

-- q's link is led over the link of its link, and the search goes there
module _ (N M K : ℕ → ℕ) (len p q : ℕ) (f : Finding N M len p q) (h : q < M q) (new : K q ≡ M (M q)) (old : (x : ℕ) → x ≤ len → (x ≡ q → ⊥) → K x ≡ M x) where
  far : (M q ≤ M (M q)) × (M (M q) ≤ len)
  far = (f.links.up (M q) (f.links.top q f.to), f.links.top (M q) (f.links.top q f.to))

  -- a busy position stays one
  stays : (x : ℕ) → x ≤ len → x < M x → Dec (x ≡ q) → x < K x
  stays x l k (yes e) = omega (arith, ap K e, new, far)
  stays x l k (no n) = omega (arith, old x l n)

  back : (x : ℕ) → x ≤ len → x < K x → Dec (x ≡ q) → x < M x
  back x l k (yes e) = omega (arith, ap M e)
  back x l k (no n) = omega (arith, old x l n)

  -- what a link of K leads over is busy in M
  spans : (a x : ℕ) → a ≤ len → a ≤ x → x < K a → Dec (a ≡ q) → Dec (x < M q) → x < M x
  spans a x l m k (no n) d = f.links.over a x l m (omega (arith, old a l n))
  spans a x l m k (yes e) (yes d) = f.links.over q x f.to (omega arith) d
  spans a x l m k (yes e) (no d) = f.links.over (M q) x (f.links.top q f.to) (omega arith) (omega (arith, ap K e, new))

  tops : (x : ℕ) → x ≤ len → Dec (x ≡ q) → (x ≤ K x) × (K x ≤ len)
  tops x l (yes e) = omega (arith, ap K e, new, far)
  tops x l (no n) = omega (arith, old x l n, f.links.up x l, f.links.top x l)

  below : (a x : ℕ) → a ≤ len → x < K a → x ≤ len
  below a x l k = omega (arith, (tops a l (ℕ_discrete a q)).1)

  pub finding_more : Finding N K len p (K q)
  finding_more = record {
    links = record {
      up = λ x l. (tops x l (ℕ_discrete x q)).0;
      top = λ x l. (tops x l (ℕ_discrete x q)).1;
      over = λ a x l m k. stays x (below a x l k) (spans a x l m k (ℕ_discrete a q) (dec_lt x (M q))) (ℕ_discrete x q);
    };
    alike = alike_trans N M K len f.alike (record { busy = λ x l k. stays x l k (ℕ_discrete x q); back = λ x l k. back x l k (ℕ_discrete x q) });
    from = omega (arith, f.from, new, far);
    to = omega (arith, new, far);
    passed = λ x a b. go x a b (dec_lt x q);
  }
    where
      go : (x : ℕ) → p ≤ x → x < K q → Dec (x < q) → x < K x
      go x a b (yes d) = stays x (omega (arith, f.to)) (f.passed x a d) (ℕ_discrete x q)
      go x a b (no d) = stays x (below q x f.to b) (spans q x f.to (omega arith) b (yes refl) (dec_lt x (M q))) (ℕ_discrete x q)

-- a free position is led to the next one
module _ (N K : ℕ → ℕ) (len q : ℕ) (l : Links N len) (h : q < len) (new : K q ≡ q + 1) (old : (x : ℕ) → x ≤ len → (x ≡ q → ⊥) → K x ≡ N x) where
  pub taken_here : q < K q
  taken_here = omega (arith, new)

  pub taken_busy : (x : ℕ) → x ≤ len → x < N x → x < K x
  taken_busy x m k = go (ℕ_discrete x q)
    where
      go : Dec (x ≡ q) → x < K x
      go (yes e) = omega (arith, ap K e, new)
      go (no n) = omega (arith, old x m n)

  pub taken_links : Links K len
  taken_links = record {
    up = λ x m. up x m (ℕ_discrete x q);
    top = λ x m. top x m (ℕ_discrete x q);
    over = λ a x m b k. over a x m b k (ℕ_discrete a q) (ℕ_discrete x q);
  }
    where
      up : (x : ℕ) → x ≤ len → Dec (x ≡ q) → x ≤ K x
      up x m (yes e) = omega (arith, ap K e, new)
      up x m (no n) = omega (arith, old x m n, l.up x m)

      top : (x : ℕ) → x ≤ len → Dec (x ≡ q) → K x ≤ len
      top x m (yes e) = omega (arith, ap K e, new)
      top x m (no n) = omega (arith, old x m n, l.top x m)

      over : (a x : ℕ) → a ≤ len → a ≤ x → x < K a → Dec (a ≡ q) → Dec (x ≡ q) → x < K x
      over a x m b k (yes e) (yes g) = omega (arith, ap K g, new)
      over a x m b k (yes e) (no g) = absurd (g (omega (arith, ap K e, new)))
      over a x m b k (no n) d = taken_busy x (omega (arith, old a m n, l.top a m)) (l.over a x m b (omega (arith, old a m n)))
