-- A position is under a handler exactly when it is before the largest end of those that start at it or before it.
use Prim.Native.Nat.{ℕ, ◌+◌, ◌<◌, max}
use mathlib.Core.Path.{◌≡◌, refl, sym, ap, ap₂, ◌∙◌}
use mathlib.Core.List.{List, [], ◌∷◌}
use mathlib.Core.Bool.{Bool, true, false, cond, ◌&&◌, ◌||◌}
use native.Mathlib.Omega.{arith}
use native.Mathlib.Decide.{dec_lt}
use lib.Dec.{eqb, leb, ltb}
use borrow.Author.Tests.{lt-ltb, le-ltb, le-leb, lt-leb, eq-eqb, ne_eqb}
use Rattle.lists.specs.Lists.{any_of}
use Rattle.sheet.specs.Module.{Handler}
use Rattle.code.specs.Code.{covers}
use Rattle.rule7_code.specs.Sweep.{reach_of, end_at}

-- below the larger of two is below one of them
ltb_max : (p a b : ℕ) → ltb p (max a b) ≡ (ltb p a || ltb p b)
ltb_max p a b = go (dec_lt p a) (dec_lt p b)
  where
    go : Dec (p < a) → Dec (p < b) → ltb p (max a b) ≡ (ltb p a || ltb p b)
    go (yes h) d = rw (lt-ltb p (max a b) (omega arith), lt-ltb p a h)
    go (no h) (yes k) = rw (lt-ltb p (max a b) (omega arith), le-ltb p a (omega arith), lt-ltb p b k)
    go (no h) (no k) = rw (le-ltb p (max a b) (omega arith), le-ltb p a (omega arith), le-ltb p b (omega arith))

leb_ltb : (s pc : ℕ) → leb s pc ≡ ltb s (pc + 1)
leb_ltb s pc = go (dec_lt pc s)
  where
    go : Dec (pc < s) → leb s pc ≡ ltb s (pc + 1)
    go (yes h) = lt-leb s pc h ∙ sym (le-ltb s (pc + 1) (omega arith))
    go (no h) = le-leb s pc (omega arith) ∙ sym (lt-ltb s (pc + 1) (omega arith))

one_covers : (b : Bool) (pc e : ℕ) → (b && ltb pc e) ≡ ltb pc (cond b e 0)
one_covers true pc e = refl
one_covers false pc e = sym (le-ltb pc 0 (omega arith))

pub cover_reach : (pc : ℕ) (hs : List Handler) → any_of (covers pc) hs ≡ ltb pc (reach_of (pc + 1) hs)
unfolding covers reach_of
cover_reach pc [] = sym (le-ltb pc 0 (omega arith))
cover_reach pc (h ∷ hs) =
    ap₂ (λ a b. a || b) (one_covers (leb h.start pc) pc h.end ∙ ap (λ b. ltb pc (cond b h.end 0)) (leb_ltb h.start pc)) (cover_reach pc hs)
    ∙ sym (ltb_max pc (cond (ltb h.start (pc + 1)) h.end 0) (reach_of (pc + 1) hs))

pub reach_start : (hs : List Handler) → 0 ≡ reach_of 0 hs
unfolding reach_of
reach_start [] = refl
reach_start (h ∷ hs) =
    let e : cond (ltb h.start 0) h.end 0 ≡ 0 = ap (λ b. cond b h.end 0) (le-ltb h.start 0 (omega arith)) in
    omega (arith, e, reach_start hs)

-- one more position: those that start there
one_next : (s e pc : ℕ) → cond (ltb s (pc + 1)) e 0 ≡ max (cond (ltb s pc) e 0) (cond (eqb s pc) e 0)
one_next s e pc = go (dec_lt s pc) (dec_lt pc s)
  where
    go : Dec (s < pc) → Dec (pc < s) → cond (ltb s (pc + 1)) e 0 ≡ max (cond (ltb s pc) e 0) (cond (eqb s pc) e 0)
    go (yes h) d = rw (lt-ltb s (pc + 1) (omega arith), lt-ltb s pc h, ne_eqb s pc (omega arith)) (omega arith)
    go (no h) (yes k) = rw (le-ltb s (pc + 1) (omega arith), le-ltb s pc (omega arith), ne_eqb s pc (omega arith)) (omega arith)
    go (no h) (no k) = rw (lt-ltb s (pc + 1) (omega arith), le-ltb s pc (omega arith), eq-eqb s pc (omega arith)) (omega arith)

pub reach_next : (pc : ℕ) (hs : List Handler) → reach_of (pc + 1) hs ≡ max (reach_of pc hs) (end_at pc hs)
unfolding reach_of end_at
reach_next pc [] = omega arith
reach_next pc (h ∷ hs) = omega (arith, one_next h.start h.end pc, reach_next pc hs)
