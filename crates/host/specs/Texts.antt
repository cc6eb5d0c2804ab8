-- Strings and the words that they stand in.
use Rattle.std.specs.Prelude.{ℕ, zero, suc, ◌+◌, ◌/◌, ◌≤◌, ◌<◌, ◌≡◌, List, [], ◌∷◌, length, get_or, take}
use Rattle.std.proofs.Common.{sym, ap, ◌∙◌, arith}
use Rattle.std.proofs.Math.Decide.{dec_lt}
use Rattle.lists.specs.Lists.{concat_map}
use Rattle.blocks.specs.Blocks.{bytes_of}
use Rattle.reader.specs.Reader.{got, pure, word, many}
use Rattle.reader.specs.Text.{words_for, good_text, string}
use Rattle.reader.specs.ReaderLaws.{word_at, word_end, not_broken, then_inv, chosen}

-- ── words that were read ──

pub word_inv : (ws : List ℕ) (p : ℕ) {w q : ℕ} → word ws p ≡ got w q → (p < length ws) × (w ≡ get_or ws p 0) × (q ≡ p + 1)
word_inv ws p {w} {q} e = go (dec_lt p (length ws))
  where
    go : Dec (p < length ws) → (p < length ws) × (w ≡ get_or ws p 0) × (q ≡ p + 1)
    go (yes h) = let x : got (get_or ws p 0) (p + 1) ≡ got w q = sym (word_at ws p h) ∙ e in (h, cc, cc)
    go (no h) = absurd (not_broken (sym (word_end ws p (omega arith)) ∙ e))

pub record Passed (ws : List ℕ) (p k : ℕ) (xs : List ℕ) (q : ℕ) : Type 0 where
  pub end : q ≡ p + k
  pub within : q ≤ length ws
  pub count : length xs ≡ k

pub words_passed : (ws : List ℕ) (k p : ℕ) (xs : List ℕ) (q : ℕ) → p ≤ length ws → many k word ws p ≡ got xs q → Passed ws p k xs q
unfolding many
words_passed ws zero p xs q h e = let x : p ≡ q = cc in let y : [] ≡ xs = cc in record { end = omega arith; within = omega arith; count = sym (ap length y) }
words_passed ws (suc k) p xs q h e =
    then_inv (word ws p) _ e λ w p₁ e₁ e. then_inv (many k word ws p₁) _ e λ ys p₂ e₂ e.
    let i = word_inv ws p e₁ in
    let r = words_passed ws k p₁ ys p₂ (omega (arith, i.0, i.2)) e₂ in
    let x : p₂ ≡ q = cc in
    let y : w ∷ ys ≡ xs = cc in
    record { end = omega (arith, i.2, r.end); within = omega (arith, r.within); count = sym (ap length y) ∙ ap suc r.count }

-- ── a string that was read ──

-- its length w, and where it ends
pub record Packed (ws : List ℕ) (p e w : ℕ) : Type 0 where
  pub here : w ≡ get_or ws p 0
  pub end : e ≡ p + 1 + (w + 3) / 4
  pub within : e ≤ length ws

pub packed : {C : Type 0} (ws : List ℕ) (p : ℕ) (s : List ℕ) (e : ℕ) → string ws p ≡ got s e → ((w : ℕ) → Packed ws p e w → C) → C
unfolding string words_for
packed ws p s e h k =
    then_inv (word ws p) _ h λ w p₁ e₁ h. then_inv (many ((w + 3) / 4) word ws p₁) _ h λ xs p₂ e₂ h.
    let bs = concat_map (bytes_of 4) xs in
    chosen ws (good_text w bs) (pure (take w bs)) p₂ h λ t h.
    let i = word_inv ws p e₁ in
    let x : p₂ ≡ e = cc in
    let r = words_passed ws ((w + 3) / 4) p₁ xs p₂ (omega (arith, i.0, i.2)) e₂ in
    k w (record { here = i.1; end = omega (arith, i.2, r.end); within = omega (arith, r.within) })
