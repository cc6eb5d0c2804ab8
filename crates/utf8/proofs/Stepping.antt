-- For the code that steps from octet to octet: one law for each return.
use Prim.Native.Nat.{ℕ, zero, suc, ◌/◌, ◌%◌, ◌≤◌, ◌<◌}
use mathlib.Core.Path.{◌≡◌, refl, sym, ap, ◌∙◌}
use mathlib.Core.List.{List, [], ◌∷◌, Memᴰ}
use mathlib.Core.Bool.{Bool, true, false, cond, and-true, and-false}
use native.Mathlib.Omega.{arith}
use lib.Dec.{ltb}
use lib.ListN.{length, get_or}
use borrow.Author.Tests.{le-leb, lt-leb, le-ltb, lt-ltb, ltb-true}
use Rattle.lists.specs.Lists.{all_of}
use Rattle.lists.specs.ListLaws.{both, and_first, and_second}
use Rattle.utf8.specs.declared.State.{State}
use Rattle.utf8.specs.declared.State.TheVariants.{Done, Tail1, Tail2, Tail3, AfterE0, AfterED, AfterF0, AfterF4, Wrong}
use Rattle.utf8.specs.Utf8.{Range, ◌to◌, chars, within, Place, wrong, due, begin, next, after, done}
use Rattle.utf8.specs.State.{meaning, octets, ascii}
use Rattle.utf8.proofs.GrammarLaws.{begin_row}

-- ── the first octet ──

member : {A : Type 0} (xs : List A) (k : ℕ) (d : A) → k < length xs → Memᴰ (get_or xs k d) xs
member [] k d h = absurd (omega arith)
member (x ∷ xs) zero d h = Memᴰ.head refl
member (x ∷ xs) (suc k) d h = Memᴰ.tail (member xs k d (omega arith))

module _ (b : ℕ) where
  -- an octet within the first range of row k
  by_row : (k low high : ℕ) (rs : List Range) → k < 9 → get_or chars k [] ≡ (low to high) ∷ rs → low ≤ b → b ≤ high → due rs ≡ begin chars b
  by_row k low high rs h e l u =
      sym (begin_row chars 0 b refl (rw e at (member chars k [] h)) (both (le-leb low b l) (le-leb b high u)))

  pub first_done : b ≤ 0x7F → meaning Done ≡ begin chars b
  unfolding meaning
  first_done u = by_row 0 0 0x7F _ (omega arith) refl (omega arith) u

  pub first_tail1 : 0xC2 ≤ b → b ≤ 0xDF → meaning Tail1 ≡ begin chars b
  unfolding meaning
  first_tail1 l u = by_row 1 0xC2 0xDF _ (omega arith) refl l u

  pub first_e0 : b ≡ 0xE0 → meaning AfterE0 ≡ begin chars b
  unfolding meaning
  first_e0 e = by_row 2 0xE0 0xE0 _ (omega arith) refl (omega arith) (omega arith)

  pub first_tail2 : 0xE1 ≤ b → b ≤ 0xEC → meaning Tail2 ≡ begin chars b
  unfolding meaning
  first_tail2 l u = by_row 3 0xE1 0xEC _ (omega arith) refl l u

  pub first_e_d : b ≡ 0xED → meaning AfterED ≡ begin chars b
  unfolding meaning
  first_e_d e = by_row 4 0xED 0xED _ (omega arith) refl (omega arith) (omega arith)

  pub first_tail2_late : 0xEE ≤ b → b ≤ 0xEF → meaning Tail2 ≡ begin chars b
  unfolding meaning
  first_tail2_late l u = by_row 5 0xEE 0xEF _ (omega arith) refl l u

  pub first_f0 : b ≡ 0xF0 → meaning AfterF0 ≡ begin chars b
  unfolding meaning
  first_f0 e = by_row 6 0xF0 0xF0 _ (omega arith) refl (omega arith) (omega arith)

  pub first_tail3 : 0xF1 ≤ b → b ≤ 0xF3 → meaning Tail3 ≡ begin chars b
  unfolding meaning
  first_tail3 l u = by_row 7 0xF1 0xF3 _ (omega arith) refl l u

  pub first_f4 : b ≡ 0xF4 → meaning AfterF4 ≡ begin chars b
  unfolding meaning
  first_f4 e = by_row 8 0xF4 0xF4 _ (omega arith) refl (omega arith) (omega arith)

  pub first_tail : 0x80 ≤ b → b ≤ 0xC1 → meaning Wrong ≡ begin chars b
  unfolding meaning begin
  first_tail l u = simp (
    lt-leb b 0x7F (omega arith),
    and-false,
    lt-leb 0xC2 b (omega arith),
    lt-leb 0xE0 b (omega arith),
    lt-leb 0xE1 b (omega arith),
    lt-leb 0xED b (omega arith),
    lt-leb 0xEE b (omega arith),
    lt-leb 0xF0 b (omega arith),
    lt-leb 0xF1 b (omega arith),
    lt-leb 0xF4 b (omega arith),
  )

  pub first_past : 0xF5 ≤ b → meaning Wrong ≡ begin chars b
  unfolding meaning begin
  first_past l = simp (
    lt-leb b 0x7F (omega arith),
    lt-leb b 0xDF (omega arith),
    lt-leb b 0xE0 (omega arith),
    lt-leb b 0xEC (omega arith),
    lt-leb b 0xED (omega arith),
    lt-leb b 0xEF (omega arith),
    lt-leb b 0xF0 (omega arith),
    lt-leb b 0xF3 (omega arith),
    lt-leb b 0xF4 (omega arith),
    and-false,
  )

pub ruleset firsts = (first_done, first_tail1, first_e0, first_tail2, first_e_d, first_tail2_late, first_f0, first_tail3, first_f4, first_tail, first_past)

-- ── a later octet ──

module _ (b low high : ℕ) (then : State) where
  pub later_below : b < low → meaning Wrong ≡ cond (within (low to high) b) (meaning then) wrong
  unfolding meaning
  later_below h = rw (lt-leb low b h)

  pub later_above : low ≤ b → high < b → meaning Wrong ≡ cond (within (low to high) b) (meaning then) wrong
  unfolding meaning
  later_above l h = rw (le-leb low b l, lt-leb b high h)

  pub later_in : low ≤ b → b ≤ high → meaning then ≡ cond (within (low to high) b) (meaning then) wrong
  later_in l h = rw (le-leb low b l, le-leb b high h)

-- ── one octet more ──

module _ (b : ℕ) {s : State} {q : Place} where
  pub next_done : s ≡ Done → q ≡ begin chars b → q ≡ next (meaning s) b
  unfolding meaning next
  next_done e k = k ∙ sym (ap (λ x. next (meaning x) b) e)

  pub next_tail1 : s ≡ Tail1 → q ≡ cond (within (0x80 to 0xBF) b) (meaning Done) wrong → q ≡ next (meaning s) b
  unfolding meaning next
  next_tail1 e k = k ∙ sym (ap (λ x. next (meaning x) b) e)

  pub next_tail2 : s ≡ Tail2 → q ≡ cond (within (0x80 to 0xBF) b) (meaning Tail1) wrong → q ≡ next (meaning s) b
  unfolding meaning next
  next_tail2 e k = k ∙ sym (ap (λ x. next (meaning x) b) e)

  pub next_tail3 : s ≡ Tail3 → q ≡ cond (within (0x80 to 0xBF) b) (meaning Tail2) wrong → q ≡ next (meaning s) b
  unfolding meaning next
  next_tail3 e k = k ∙ sym (ap (λ x. next (meaning x) b) e)

  pub next_e0 : s ≡ AfterE0 → q ≡ cond (within (0xA0 to 0xBF) b) (meaning Tail1) wrong → q ≡ next (meaning s) b
  unfolding meaning next
  next_e0 e k = k ∙ sym (ap (λ x. next (meaning x) b) e)

  pub next_e_d : s ≡ AfterED → q ≡ cond (within (0x80 to 0x9F) b) (meaning Tail1) wrong → q ≡ next (meaning s) b
  unfolding meaning next
  next_e_d e k = k ∙ sym (ap (λ x. next (meaning x) b) e)

  pub next_f0 : s ≡ AfterF0 → q ≡ cond (within (0x90 to 0xBF) b) (meaning Tail2) wrong → q ≡ next (meaning s) b
  unfolding meaning next
  next_f0 e k = k ∙ sym (ap (λ x. next (meaning x) b) e)

  pub next_f4 : s ≡ AfterF4 → q ≡ cond (within (0x80 to 0x8F) b) (meaning Tail2) wrong → q ≡ next (meaning s) b
  unfolding meaning next
  next_f4 e k = k ∙ sym (ap (λ x. next (meaning x) b) e)

pub next_wrong : (b : ℕ) {s : State} → s ≡ Wrong → meaning Wrong ≡ next (meaning s) b
unfolding meaning next
next_wrong b e = sym (ap (λ x. next (meaning x) b) e)

pub ruleset nexts = (next_done, next_tail1, next_tail2, next_tail3, next_e0, next_e_d, next_f0, next_f4, next_wrong)

-- ── a word more ──

pub word_next : (w : ℕ) (p : Place) {p₁ p₂ p₃ q : Place} → p₁ ≡ next p (w % 256) → p₂ ≡ next p₁ (w / 256 % 256)
    → p₃ ≡ next p₂ (w / 256 / 256 % 256) → q ≡ next p₃ (w / 256 / 256 / 256 % 256) → q ≡ after p (octets w)
unfolding after octets
word_next w p e₁ e₂ e₃ e₄ =
    e₄ ∙ ap (λ x. next x (w / 256 / 256 / 256 % 256)) (e₃ ∙ ap (λ x. next x (w / 256 / 256 % 256)) (e₂ ∙ ap (λ x. next x (w / 256 % 256)) e₁))

-- ── a word of ASCII ──

module _ (w : ℕ) where
  pub ascii_not1 : 0x80 ≤ w % 256 → false ≡ ascii w
  unfolding ascii octets
  ascii_not1 h = rw (le-ltb (w % 256) 0x80 h)

  pub ascii_not2 : w % 256 < 0x80 → 0x80 ≤ w / 256 % 256 → false ≡ ascii w
  unfolding ascii octets
  ascii_not2 g h = rw (lt-ltb (w % 256) 0x80 g, le-ltb (w / 256 % 256) 0x80 h)

  pub ascii_not3 : w % 256 < 0x80 → w / 256 % 256 < 0x80 → 0x80 ≤ w / 256 / 256 % 256 → false ≡ ascii w
  unfolding ascii octets
  ascii_not3 f g h = rw (lt-ltb (w % 256) 0x80 f, lt-ltb (w / 256 % 256) 0x80 g, le-ltb (w / 256 / 256 % 256) 0x80 h)

  pub ascii_last : w % 256 < 0x80 → w / 256 % 256 < 0x80 → w / 256 / 256 % 256 < 0x80 → ltb (w / 256 / 256 / 256 % 256) 0x80 ≡ ascii w
  unfolding ascii octets
  ascii_last f g h =
      rw (lt-ltb (w % 256) 0x80 f, lt-ltb (w / 256 % 256) 0x80 g, lt-ltb (w / 256 / 256 % 256) 0x80 h)
      (sym (and-true (ltb (w / 256 / 256 / 256 % 256) 0x80)))

pub ruleset asciis = (ascii_not1, ascii_not2, ascii_not3, ascii_last)

done_place : (p : Place) → done p ≡ true → p ≡ due []
done_place (due []) e = refl
done_place (due (r ∷ rs)) e = let z : ◌≡◌ {A = ℕ} 0 1 = cc in absurd (omega arith)
done_place wrong e = let z : ◌≡◌ {A = ℕ} 0 1 = cc in absurd (omega arith)

all_ascii : (bs : List ℕ) → all_of (λ b. ltb b 0x80) bs ≡ true → after (due []) bs ≡ due []
unfolding after next meaning
all_ascii [] h = refl
all_ascii (b ∷ bs) h =
    let t = all_of (λ b. ltb b 0x80) bs in
    let l : b < 0x80 = ltb-true b 0x80 (and_first (ltb b 0x80) t h) in
    ap (λ p. after p bs) (sym (first_done b (omega arith))) ∙ all_ascii bs (and_second (ltb b 0x80) t h)

pub word_ascii : (s : State) (w : ℕ) {x y : Bool} → x ≡ true → x ≡ ascii w → y ≡ true → y ≡ done (meaning s) → meaning Done ≡ after (meaning s) (octets w)
unfolding ascii meaning
word_ascii s w h e k f = sym (ap (λ p. after p (octets w)) (done_place (meaning s) (sym f ∙ k)) ∙ all_ascii (octets w) (sym e ∙ h))

-- ── nothing to come ──

pub is_done_lem : {s : State} → s ≡ Done → true ≡ done (meaning s)
unfolding meaning
is_done_lem e = rw e

-- the variants after `Done`, by their numbers
pub is_not_done : (s : State) → (s ≡ Done → ⊥) → false ≡ done (meaning s)
unfolding meaning
is_not_done Done h = absurd (h refl)
is_not_done Tail1 h = refl
is_not_done Tail2 h = refl
is_not_done Tail3 h = refl
is_not_done AfterE0 h = refl
is_not_done AfterED h = refl
is_not_done AfterF0 h = refl
is_not_done AfterF4 h = refl
is_not_done Wrong h = refl
