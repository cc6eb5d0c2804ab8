-- What painting gives.
use mathlib.Core.Path.{◌≡◌, refl, sym, ap, ◌∙◌}
use mathlib.Core.Bool.{true}
use mathlib.Core.List.{List}
use Prim.Native.Nat.{ℕ, ◌+◌, ◌*◌, ◌≤◌, ◌<◌, min}
use native.Mathlib.Omega.{arith}
use native.Mathlib.Decide.{dec_lt, dec_le, ℕ_discrete}
use lib.ListN.{get_or}
use Rattle.blocks.specs.Blocks.{words}
use Rattle.table.specs.Records.{no_handler}
use Rattle.table_catches.specs.Catch.{within, catch_at}
use Rattle.table_catches.specs.Links.{Found}
use Rattle.table_catches.specs.Painting.{Painted, Table}
use Rattle.table_catches.proofs.CatchLaws.{within_yes, within_start, within_end, lowest_hit, lowest_miss}
use Rattle.table_catches.proofs.LinkLaws.{taken_links}

pub painted_none : (T : ℕ → ℕ) (k s stop len : ℕ) → Painted T T k s s stop len
painted_none T k s stop len = record { hit = λ q a b c. absurd (omega arith); miss = λ q a b. refl }

pub painted_then : (T S R : ℕ → ℕ) (k s p e stop len : ℕ) → s ≤ p → Painted T S k s p stop len → Painted S R k p e stop len → p ≤ e → Painted T R k s e stop len
painted_then T S R k s p e stop len h a b l = record {
  hit = λ q x y z u t. hits q x y z u t (dec_lt q p);
  miss = λ q x n. misses q x n (dec_lt q p);
}
  where
    hits : (q : ℕ) → q < len → s ≤ q → q < e → q < stop → T q ≡ no_handler → Dec (q < p) → R q ≡ k
    hits q x y z u t (yes d) = b.miss q x (λ g i j m. omega arith) ∙ a.hit q x y d u t
    hits q x y z u t (no d) = b.hit q x (omega arith) z u (a.miss q x (λ g i j m. omega arith) ∙ t)

    misses : (q : ℕ) → q < len → (s ≤ q → q < e → q < stop → T q ≡ no_handler → ⊥) → Dec (q < p) → R q ≡ T q
    misses q x n (yes d) = b.miss q x (λ g i j m. omega arith) ∙ a.miss q x (λ g i j m. n g (omega arith) j m)
    misses q x n (no d) =
        let o = a.miss q x (λ g i j m. omega arith) in
        b.miss q x (λ g i j m. n (omega arith) i j (sym o ∙ m)) ∙ o

-- after a search the table is one still
pub table_found : (T N M : ℕ → ℕ) (len p r : ℕ) → Table T N len → Found N M len p r → Table T M len
table_found T N M len p r t f = record {
  links = f.links;
  free = λ q h e. t.free q h (go q h e (dec_lt q (N q)));
  busy = λ q h b. t.busy q h (f.alike.back q (omega arith) b);
}
  where
    go : (q : ℕ) → q < len → M q ≡ q → Dec (q < N q) → N q ≡ q
    go q h e (yes d) = absurd (omega (arith, f.alike.busy q (omega arith) d))
    go q h e (no d) = omega (arith, t.links.up q (omega arith))

-- nothing is free from p up to stop: nothing is painted
pub painted_past : (T M : ℕ → ℕ) (N : ℕ → ℕ) (k len p r stop : ℕ) → Table T M len → Found N M len p r → stop ≤ r → Painted T T k p (r + 1) stop len
painted_past T M N k len p r stop t f h = record {
  hit = λ q a b c d e. absurd (t.busy q a (f.passed q b (omega arith)) e);
  miss = λ q a n. refl;
}

-- the first free position from p on is painted
module _ (T S N M K : ℕ → ℕ) (k len p r stop : ℕ) (t : Table T M len) (f : Found N M len p r) (h : r < stop) (l : stop ≤ len) (kn : k < no_handler)
    (here : S r ≡ k) (else : (x : ℕ) → x < len → (x ≡ r → ⊥) → S x ≡ T x)
    (new : K r ≡ r + 1) (old : (x : ℕ) → x ≤ len → (x ≡ r → ⊥) → K x ≡ M x) where
  was_free : T r ≡ no_handler
  was_free = t.free r (omega arith) f.free

  pub painted_here : Painted T S k p (r + 1) stop len
  painted_here = record {
    hit = λ q a b c d e. hits q a b c e (ℕ_discrete q r);
    miss = λ q a n. misses q a n (ℕ_discrete q r);
  }
    where
      hits : (q : ℕ) → q < len → p ≤ q → q < r + 1 → T q ≡ no_handler → Dec (q ≡ r) → S q ≡ k
      hits q a b c e (yes g) = ap S g ∙ here
      hits q a b c e (no g) = absurd (t.busy q a (f.passed q b (omega arith)) e)

      misses : (q : ℕ) → q < len → (p ≤ q → q < r + 1 → q < stop → T q ≡ no_handler → ⊥) → Dec (q ≡ r) → S q ≡ T q
      misses q a n (yes g) = absurd (n (omega (arith, f.from)) (omega arith) (omega arith) (ap T g ∙ was_free))
      misses q a n (no g) = else q a g

  pub table_here : Table S K len
  table_here = record {
    links = taken_links M K len r f.links (omega arith) new old;
    free = λ q a e. frees q a e (ℕ_discrete q r);
    busy = λ q a b e. busys q a b e (ℕ_discrete q r);
  }
    where
      frees : (q : ℕ) → q < len → K q ≡ q → Dec (q ≡ r) → S q ≡ no_handler
      frees q a e (yes g) = absurd (omega (arith, ap K g, new))
      frees q a e (no g) = else q a g ∙ t.free q a (sym (old q (omega arith) g) ∙ e)

      busys : (q : ℕ) → q < len → q < K q → S q ≡ no_handler → Dec (q ≡ r) → ⊥
      busys q a b e (yes g) = omega (arith, ap S g, here)
      busys q a b e (no g) = t.busy q a (omega (arith, old q (omega arith) g)) (sym (else q a g) ∙ e)

-- one handler more
pub painted_handler : (b : List ℕ) (at k e len : ℕ) (T S : ℕ → ℕ) → k < no_handler → e ≡ min (get_or (words b) (at + 4 * k + 1) 0) len →
    Painted T S k (get_or (words b) (at + 4 * k) 0) e e len → ((q : ℕ) → q < len → T q ≡ catch_at b at k q) → (q : ℕ) → q < len → S q ≡ catch_at b at (k + 1) q
painted_handler b at k e len T S kn ee p old q h = go (ℕ_discrete (T q) no_handler) (dec_le (get_or (words b) (at + 4 * k) 0) q) (dec_lt q (get_or (words b) (at + 4 * k + 1) 0))
  where
    misses : (T q ≡ no_handler → within b at q k ≡ true → ⊥) → S q ≡ catch_at b at (k + 1) q
    misses n = p.miss q h (λ x y z d. n d (within_yes b at q k x (omega arith)))
        ∙ old q h ∙ sym (lowest_miss (within b at q) k kn (λ x y. n (old q h ∙ x) y))

    go : Dec (T q ≡ no_handler) → Dec (get_or (words b) (at + 4 * k) 0 ≤ q) → Dec (q < get_or (words b) (at + 4 * k + 1) 0) → S q ≡ catch_at b at (k + 1) q
    go (yes a) (yes l) (yes c) =
        p.hit q h l (omega arith) (omega arith) a
        ∙ sym (lowest_hit (within b at q) k kn (sym (old q h) ∙ a) (within_yes b at q k l c))
    go (yes a) (yes l) (no c) = misses λ x y. c (within_end b at q k y)
    go (yes a) (no l) c = misses λ x y. l (within_start b at q k y)
    go (no a) l c = misses λ x y. a x
