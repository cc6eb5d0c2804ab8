-- Chains of parents by what their first number is; what a chain holds is what its first number reaches.
use Rattle.std.specs.Prelude.{◌≡◌, refl, ◌≢◌, true, false, ◌||◌, List, [], ◌∷◌, ℕ, zero, suc, ◌≤◌, ◌<◌, T}
use Rattle.std.proofs.Common.{sym, ap, append-nil, arith}
use Rattle.std.proofs.Math.Decide.{ℕ_discrete}
use Rattle.lists.specs.Lists.{any_of, concat_map}
use Rattle.law_counting.specs.Counting.{count, tick_is, tick_not}
use Rattle.sheet.specs.Module.{TypeDef}
use Rattle.parents.specs.Forest.{Entry, other, root, sub, entry_at, parents, walk, chain}
use Rattle.parents.specs.WalkLaws.{walk_stop, walk_up}
use Rattle.spans.specs.Spans.{is_root, Reaches, here, up}
use Rattle.law_forest.specs.Entries.{is_struct_entry, ends}

-- ── the chain by what its first number is ──

-- what a number is, with the equation
pub kind : (types : List TypeDef) (t : ℕ) (P : Type 0) → (entry_at types t ≡ other → P) → (entry_at types t ≡ root → P) → ((p : ℕ) → entry_at types t ≡ sub p → P) → P
kind types t P o r s = go (entry_at types t) refl
  where
    go : (x : Entry) → entry_at types t ≡ x → P
    go other q = o q
    go root q = r q
    go (sub p) q = s p q

pub chain_up : (types : List TypeDef) (f t p : ℕ) → entry_at types t ≡ sub p → chain types (suc f) t ≡ t ∷ chain types f p
unfolding chain parents
chain_up types f t p h = walk_up (λ x. parents (entry_at types x)) f t p (ap parents h)

pub chain_stop : (types : List TypeDef) (f t : ℕ) → parents (entry_at types t) ≡ [] → chain types (suc f) t ≡ t ∷ []
unfolding chain
chain_stop types f t h = walk_stop (λ x. parents (entry_at types x)) f t h

pub ends_up : (types : List TypeDef) (f t p : ℕ) → entry_at types t ≡ sub p → ends types (suc f) t ≡ ends types f p
unfolding ends chain walk parents is_root
ends_up types f t p h = rw (h, append-nil (chain types f p))

pub ends_zero : (types : List TypeDef) (t : ℕ) → T (ends types 0 t) → ⊥
unfolding ends chain walk parents is_root
ends_zero types t h = h

pub chain_zero : (types : List TypeDef) (t a : ℕ) → 1 ≤ count a (chain types 0 t) → ⊥
unfolding chain walk parents
chain_zero types t a h = omega arith

pub chain_here : (types : List TypeDef) (f t : ℕ) → 1 ≤ count t (chain types (suc f) t)
unfolding chain walk parents
chain_here types f t = omega (arith, tick_is t t refl)

pub ends_other : (types : List TypeDef) (f t : ℕ) → entry_at types t ≡ other → ends types (suc f) t ≡ false
unfolding ends chain walk parents is_root
ends_other types f t h = rw h

pub ends_root : (types : List TypeDef) (f t : ℕ) → entry_at types t ≡ root → ends types (suc f) t ≡ true
unfolding ends chain walk parents is_root
ends_root types f t h = rw h

pub ends_struct : (types : List TypeDef) (f t : ℕ) → T (ends types f t) → T (is_struct_entry (entry_at types t))
unfolding ends chain walk parents is_root
ends_struct types zero t h = absurd h
ends_struct types (suc f) t h = go (entry_at types t) h
  where
    go : (x : Entry) → T (is_root x || any_of (λ y. is_root (entry_at types y)) (concat_map (chain types f) (parents x))) → T (is_struct_entry x)
    go other h = absurd h
    go root h = tt
    go (sub p) h = tt

-- ── reaching ──

abbrev pub steps : {types : List TypeDef} {t a : ℕ} → Reaches types t a → ℕ
steps (here q) = 0
steps (up h r) = suc (steps r)

-- a chain that ends holds all that t reaches, within its length
pub steps_short : (types : List TypeDef) (f : ℕ) {t a : ℕ} (r : Reaches types t a) → T (ends types f t) → steps r < f
steps_short types zero {t} r h = absurd (ends_zero types t h)
steps_short types (suc f) (here q) h = omega arith
steps_short types (suc f) (up {t} {p} k r) h = omega (arith, steps_short types f r (rw (ends_up types f t p k) at h))

pub reaches→chain : (types : List TypeDef) (f : ℕ) {t a : ℕ} → Reaches types t a → T (ends types f t) → 1 ≤ count a (chain types f t)
reaches→chain types zero {t} r h = absurd (ends_zero types t h)
reaches→chain types (suc f) (here {t} {a} q) h = rw (← q) (chain_here types f t)
reaches→chain types (suc f) (up {t} {p} {a} k r) h = rw (chain_up types f t p k) (omega (arith, reaches→chain types f r (rw (ends_up types f t p k) at h)))

pub chain→reaches : (types : List TypeDef) (f t a : ℕ) → 1 ≤ count a (chain types f t) → Reaches types t a
unfolding parents
chain→reaches types zero t a h = absurd (chain_zero types t a h)
chain→reaches types (suc f) t a h = go (ℕ_discrete t a) (λ p. chain→reaches types f p a)
  where
    stop : t ≢ a → parents (entry_at types t) ≡ [] → Reaches types t a
    stop n k = absurd (omega (arith, tick_not a t (λ q. n (sym q)), rw (chain_stop types f t k) at h))

    go : Dec (t ≡ a) → ((p : ℕ) → 1 ≤ count a (chain types f p) → Reaches types p a) → Reaches types t a
    go (yes q) ih = here q
    go (no n) ih = kind types t (Reaches types t a) (λ k. stop n (ap parents k)) (λ k. stop n (ap parents k))
        (λ p k. up k (ih p (omega (arith, tick_not a t (λ q. n (sym q)), rw (chain_up types f t p k) at h))))
