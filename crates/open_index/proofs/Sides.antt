-- Parts written side by side from word 0 on.
use Prim.Native.Nat.{ℕ, ◌+◌, ◌≤◌}
use mathlib.Core.Path.{◌≡◌, ap, ap₂, ◌∙◌}
use mathlib.Core.List.{List, ◌++◌}
use native.Mathlib.Omega.{arith}
use lib.ListN.{length, length-append}
use lib.Seq.{paste, length-paste}
use Rattle.lists.specs.PasteLaws.{paste_paste}
use Rattle.open_layout.specs.declared.Layout.{Layout}
use Rattle.open_index.specs.declared.Part.TheVariants.{Strings, Types, Consts, Imports, Funcs}
use Rattle.open_index.specs.Index.{edges_of, index, index_of}

-- w is w₀ with s over it from word 0 on, and b is the word after it
pub record Filled (w₀ s w : List ℕ) (b : ℕ) : Type 0 where
  pub words : w ≡ paste w₀ 0 s (length s)
  pub next : b ≡ length s

pub filled_first : {w₀ w : List ℕ} (s : List ℕ) {b : ℕ} → b ≡ 0 + length s → w ≡ paste w₀ 0 s (length s) → Filled w₀ s w b
filled_first s e k = record { words = k; next = omega arith }

module _ {w₀ s w : List ℕ} {b : ℕ} (x : Filled w₀ s w b) where
  pub filled_next : (t : List ℕ) {w₂ : List ℕ} {b₂ : ℕ} → b₂ ≡ b + length t → w₂ ≡ paste w b t (length t) → Filled w₀ (s ++ t) w₂ b₂
  filled_next t e k =
      let z : b ≡ 0 + length s = omega (arith, x.next) in
      record {
        words = k ∙ ap₂ (λ d a. paste d a t (length t)) x.words z ∙ paste_paste w₀ 0 s t (omega arith);
        next = omega (arith, x.next, length-append s t);
      }

  pub filled_length : length s ≤ length w₀ → length w ≡ length w₀
  filled_length h = ap length x.words ∙ length-paste w₀ 0 s (length s) (omega arith) (omega arith)

-- ── the five parts of a sheet ──

module _ (ws : List ℕ) (l : Layout) (w₀ : List ℕ) (fits : length (index ws l) ≤ length w₀) where
  abbrev S₁ : List ℕ
  S₁ = edges_of Strings ws l.strings

  abbrev S₂ : List ℕ
  S₂ = edges_of Types ws l.types

  abbrev S₃ : List ℕ
  S₃ = edges_of Consts ws l.consts

  abbrev S₄ : List ℕ
  S₄ = edges_of Imports ws l.imports

  abbrev S₅ : List ℕ
  S₅ = edges_of Funcs ws l.funcs

  -- as many as all five
  total : length S₁ + length S₂ + length S₃ + length S₄ + length S₅ ≤ length w₀
  unfolding index
  total = omega (arith, fits, length-append S₁ S₂, length-append (S₁ ++ S₂) S₃, length-append (S₁ ++ S₂ ++ S₃) S₄, length-append (S₁ ++ S₂ ++ S₃ ++ S₄) S₅)

  pub room₁ : 0 + length S₁ ≤ length w₀
  room₁ = omega (arith, total)

  module _ {r₁ : ℕ} {w₁ : List ℕ} (a₁ : r₁ ≡ 0 + length S₁) (b₁ : w₁ ≡ paste w₀ 0 S₁ (length S₁)) where
    f₁ : Filled w₀ S₁ w₁ r₁
    f₁ = filled_first S₁ a₁ b₁

    pub room₂ : r₁ + length S₂ ≤ length w₁
    room₂ = omega (arith, total, f₁.next, filled_length f₁ (omega (arith, total)))

    module _ {r₂ : ℕ} {w₂ : List ℕ} (a₂ : r₂ ≡ r₁ + length S₂) (b₂ : w₂ ≡ paste w₁ r₁ S₂ (length S₂)) where
      f₂ : Filled w₀ (S₁ ++ S₂) w₂ r₂
      f₂ = filled_next f₁ S₂ a₂ b₂

      n₂ : length (S₁ ++ S₂) ≡ length S₁ + length S₂
      n₂ = length-append S₁ S₂

      pub room₃ : r₂ + length S₃ ≤ length w₂
      room₃ = omega (arith, total, n₂, f₂.next, filled_length f₂ (omega (arith, total, n₂)))

      module _ {r₃ : ℕ} {w₃ : List ℕ} (a₃ : r₃ ≡ r₂ + length S₃) (b₃ : w₃ ≡ paste w₂ r₂ S₃ (length S₃)) where
        f₃ : Filled w₀ (S₁ ++ S₂ ++ S₃) w₃ r₃
        f₃ = filled_next f₂ S₃ a₃ b₃

        n₃ : length (S₁ ++ S₂ ++ S₃) ≡ length S₁ + length S₂ + length S₃
        n₃ = omega (arith, n₂, length-append (S₁ ++ S₂) S₃)

        pub room₄ : r₃ + length S₄ ≤ length w₃
        room₄ = omega (arith, total, n₃, f₃.next, filled_length f₃ (omega (arith, total, n₃)))

        module _ {r₄ : ℕ} {w₄ : List ℕ} (a₄ : r₄ ≡ r₃ + length S₄) (b₄ : w₄ ≡ paste w₃ r₃ S₄ (length S₄)) where
          f₄ : Filled w₀ (S₁ ++ S₂ ++ S₃ ++ S₄) w₄ r₄
          f₄ = filled_next f₃ S₄ a₄ b₄

          n₄ : length (S₁ ++ S₂ ++ S₃ ++ S₄) ≡ length S₁ + length S₂ + length S₃ + length S₄
          n₄ = omega (arith, n₃, length-append (S₁ ++ S₂ ++ S₃) S₄)

          pub room₅ : r₄ + length S₅ ≤ length w₄
          room₅ = omega (arith, total, n₄, f₄.next, filled_length f₄ (omega (arith, total, n₄)))

          module _ {r₅ : ℕ} {w₅ : List ℕ} (a₅ : r₅ ≡ r₄ + length S₅) (b₅ : w₅ ≡ paste w₄ r₄ S₅ (length S₅)) where
            pub all_written : w₅ ≡ paste w₀ 0 (index ws l) (length (index ws l))
            unfolding index
            all_written = (filled_next f₄ S₅ a₅ b₅).words

            pub all_placed : record { strings = 0; types = r₁; consts = r₂; imports = r₃; funcs = r₄; end = r₅ } ≡ index_of ws l
            unfolding index_of
            all_placed =
                let e₂ : r₂ ≡ 0 + length S₁ + length S₂ = omega arith in
                let e₃ : r₃ ≡ 0 + length S₁ + length S₂ + length S₃ = omega arith in
                let e₄ : r₄ ≡ 0 + length S₁ + length S₂ + length S₃ + length S₄ = omega arith in
                let e₅ : r₅ ≡ 0 + length S₁ + length S₂ + length S₃ + length S₄ + length S₅ = omega arith in
                λ i. record { strings = 0; types = a₁ i; consts = e₂ i; imports = e₃ i; funcs = e₄ i; end = e₅ i }
