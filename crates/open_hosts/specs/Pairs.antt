-- Pairs by place: none twice, and the place of one.
use Rattle.std.specs.Prelude.{ℕ, zero, suc, ◌≤◌, ◌<◌, ◌≡◌, refl, List, [], ◌∷◌, Bool, true, false, cond, not, ◌&&◌, ◌||◌, eqb, length, get_or}
use Rattle.std.proofs.Common.{sym, ap, ◌∙◌, arith, lt-ltb, le-ltb}
use Rattle.std.proofs.Math.Decide.{dec_lt}
use Rattle.lists.specs.Lists.{any_of, first_at}
use Rattle.lists.specs.FirstLaws.{first_most, first_passes, first_in, first_end}
use Rattle.std.specs.Prelude.{None, Some}
use Rattle.host.specs.Host.{HostFn, named, pairs_distinct, lookup, resolved, is_scheduler, nobody}
use Rattle.host.specs.Listed.{found_at, found}

-- entry j has the pair of entry i
abbrev pub alike : List HostFn → ℕ → ℕ → Bool
alike hs i j = named (get_or hs i nobody).module_name (get_or hs i nobody).name (get_or hs j nobody)

any_none : (p : HostFn → Bool) (hs : List HostFn) → ((i : ℕ) → i < length hs → p (get_or hs i nobody) ≡ false) → any_of p hs ≡ false
any_none p [] f = refl
any_none p (h ∷ hs) f = go (p h) (any_of p hs) (f 0 (omega arith)) (any_none p hs λ i k. f (suc i) (omega arith))
  where
    go : (a b : Bool) → a ≡ false → b ≡ false → (a || b) ≡ false
    go true b e i = e
    go false b e i = i

any_some : (p : HostFn → Bool) (hs : List HostFn) (i : ℕ) → i < length hs → p (get_or hs i nobody) ≡ true → any_of p hs ≡ true
any_some p [] i h e = absurd (omega arith)
any_some p (h ∷ hs) zero l e = first (p h) (any_of p hs) e
  where
    first : (a b : Bool) → a ≡ true → (a || b) ≡ true
    first true b e = refl
    first false b e = let z : ◌≡◌ {A = ℕ} 0 1 = cc in absurd (omega arith)
any_some p (h ∷ hs) (suc i) l e = later (p h) (any_of p hs) (any_some p hs i (omega arith) e)
  where
    later : (a b : Bool) → b ≡ true → (a || b) ≡ true
    later true b e = refl
    later false b e = e

-- no two entries have one pair
pub apart : (hs : List HostFn) → ((i j : ℕ) → i < j → j < length hs → alike hs i j ≡ false) → pairs_distinct hs ≡ true
unfolding pairs_distinct
apart [] f = refl
apart (h ∷ hs) f = go (any_of (named h.module_name h.name) hs) (pairs_distinct hs) (any_none (named h.module_name h.name) hs λ i k. f 0 (suc i) (omega arith) (omega arith)) (apart hs λ i j k l. f (suc i) (suc j) (omega arith) (omega arith))
  where
    go : (a b : Bool) → a ≡ false → b ≡ true → (not a && b) ≡ true
    go true b e i = let z : ◌≡◌ {A = ℕ} 0 1 = cc in absurd (omega arith)
    go false b e i = i

-- two entries have one pair
pub twice : (hs : List HostFn) (i j : ℕ) → i < j → j < length hs → alike hs i j ≡ true → pairs_distinct hs ≡ false
unfolding pairs_distinct
twice [] i j h k e = absurd (omega arith)
twice (h ∷ hs) i zero l k e = absurd (omega arith)
twice (h ∷ hs) zero (suc j) l k e = go (any_of (named h.module_name h.name) hs) (pairs_distinct hs) (any_some (named h.module_name h.name) hs j (omega arith) e)
  where
    go : (a b : Bool) → a ≡ true → (not a && b) ≡ false
    go true b e = refl
    go false b e = let z : ◌≡◌ {A = ℕ} 0 1 = cc in absurd (omega arith)
twice (h ∷ hs) (suc i) (suc j) l k e = go (any_of (named h.module_name h.name) hs) (pairs_distinct hs) (twice hs i j (omega arith) (omega arith) e)
  where
    go : (a b : Bool) → b ≡ false → (not a && b) ≡ false
    go true b e = refl
    go false b e = e

-- ── a pair is looked up ──

-- it stands at place e, and not before it
pub looked_at : (hs : List HostFn) (m n : List ℕ) (e : ℕ) → e < length hs → named m n (get_or hs e nobody) ≡ true → ((i : ℕ) → i < e → named m n (get_or hs i nobody) ≡ true → ⊥)
    → e ≡ lookup hs m n
unfolding lookup
looked_at hs m n e h t f =
    let i = first_at (named m n) hs in
    go i (first_most (named m n) nobody hs e h t) (first_passes (named m n) nobody hs (first_in (named m n) nobody hs e h t)) (dec_lt i e)
  where
    go : (i : ℕ) → i ≤ e → named m n (get_or hs i nobody) ≡ true → Dec (i < e) → e ≡ i
    go i l p (yes k) = absurd (f i k p)
    go i l p (no k) = omega arith

-- it stands nowhere
pub looked_nowhere : (hs : List HostFn) (m n : List ℕ) → ((i : ℕ) → i < length hs → named m n (get_or hs i nobody) ≡ true → ⊥) → length hs ≡ lookup hs m n
unfolding lookup
looked_nowhere hs m n f =
    let i = first_at (named m n) hs in
    go i (first_end (named m n) nobody hs) (first_passes (named m n) nobody hs) (dec_lt i (length hs))
  where
    go : (i : ℕ) → i ≤ length hs → (i < length hs → named m n (get_or hs i nobody) ≡ true) → Dec (i < length hs) → length hs ≡ i
    go i l p (yes k) = absurd (f i k (p k))
    go i l p (no k) = omega arith

-- ── what is found at a place ──

pub place_found : (hs : List HostFn) (m n : List ℕ) {p : ℕ} {x : Bool} → p ≡ lookup hs m n → p < length hs → x ≡ eqb (get_or hs p nobody).kind 1 → Some (p, x) ≡ found hs m n
unfolding found found_at resolved is_scheduler
place_found hs m n {p} e h f =
    ap (λ (b : Bool). Some (p, b)) f ∙ sym (ap (λ (b : Bool). cond b (Some (p, (eqb (get_or hs p nobody).kind 1))) None) (lt-ltb p (length hs) h)) ∙ ap (found_at hs) e

pub place_missing : (hs : List HostFn) (m n : List ℕ) {p : ℕ} → p ≡ lookup hs m n → length hs ≤ p → None ≡ found hs m n
unfolding found found_at resolved is_scheduler
place_missing hs m n {p} e h =
    sym (ap (λ (b : Bool). cond b (Some (p, (eqb (get_or hs p nobody).kind 1))) None) (le-ltb p (length hs) h)) ∙ ap (found_at hs) e
