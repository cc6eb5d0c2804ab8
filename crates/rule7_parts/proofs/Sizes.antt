-- Readers that take a fixed number of words: the members of a list by number.
use Prim.Native.Nat.{ℕ, zero, suc, ◌+◌, ◌*◌, ◌≤◌, ◌<◌}
use mathlib.Core.Path.{◌≡◌, refl, sym, ap, ◌∙◌}
use mathlib.Core.List.{List, ◌∷◌}
use native.Mathlib.Omega.{arith}
use lib.ListN.{length, get_or}
use Rattle.blocks.specs.Blocks.{words}
use Rattle.blocks.specs.Frame.{first_words}
use Rattle.blocks.proofs.FirstWords.{length_first_words}
use Rattle.reader.specs.Reader.{got, Reader, many, list_of}
use Rattle.reader.specs.ReaderLaws.{free, then_inv}
use Rattle.reader.specs.ValueLaws.{got_whole, list_within}
use Rattle.reader.proofs.SizeLaws.{Takes, coded_takes, list_read, list_count, many_inside}
use Rattle.sheet.specs.Decode.{handler_of, inst_of}
use Rattle.sheet.specs.Encode.{encode_handler, encode_inst}
use Rattle.sheet.specs.Coded.{coded_inst}
use Rattle.sheet.proofs.FuncCodes.{handler_codes, inst_codes}

pub handler_takes : Takes handler_of 4
unfolding encode_handler
handler_takes = coded_takes handler_of encode_handler free 4 handler_codes (λ a. refl) (omega arith)

pub inst_takes : Takes inst_of 2
unfolding encode_inst
inst_takes = coded_takes inst_of encode_inst coded_inst 2 inst_codes (λ a. refl) (omega arith)

module _ {A : Type 0} (f : Reader A) (s : ℕ) (z : Takes f s) where
  -- member i stands s * i words after the first
  pub many_at : (ws : List ℕ) (c p : ℕ) (xs : List A) (q : ℕ) → many c f ws p ≡ got xs q → (i : ℕ) (d : A) → i < c → f ws (p + s * i) ≡ got (get_or xs i d) (p + s * i + s)
  unfolding many
  many_at ws zero p xs q e i d h = absurd (omega arith)
  many_at ws (suc c) p xs q e i d h =
      then_inv (f ws p) _ e λ a p₁ e₁ e₂. then_inv (many c f ws p₁) _ e₂ λ ys p₂ e₃ e₄.
      let x : a ∷ ys ≡ xs = cc in
      let y : p₁ ≡ p + s = z.ends ws p a p₁ e₁ in
      go a ys p₁ x y e₁ i h (λ j k. many_at ws c p₁ ys p₂ e₃ j d k)
    where
      go : (a : A) (ys : List A) (p₁ : ℕ) → a ∷ ys ≡ xs → p₁ ≡ p + s → f ws p ≡ got a p₁ → (i : ℕ) → i < suc c →
          ((j : ℕ) → j < c → f ws (p₁ + s * j) ≡ got (get_or ys j d) (p₁ + s * j + s)) → f ws (p + s * i) ≡ got (get_or xs i d) (p + s * i + s)
      go a ys p₁ x y e₁ zero h k =
          let u : p + s * 0 ≡ p = omega arith in
          let v : p₁ ≡ p + s * 0 + s = omega (arith, y) in
          ap (f ws) u ∙ e₁ ∙ ap (got a) v ∙ ap (λ l. got (get_or l 0 d) (p + s * 0 + s)) x
      go a ys p₁ x y e₁ (suc j) h k =
          let u : p + s * suc j ≡ p₁ + s * j = omega (arith, y) in
          ap (f ws) u ∙ k j (omega arith) ∙ ap (λ l. got (get_or l (suc j) d) (p₁ + s * j + s)) x ∙ ap (λ r. got (get_or xs (suc j) d) (r + s)) (sym u)

  module _ (b : List ℕ) (n at : ℕ) (xs : List A) (q : ℕ) (e : list_of f (first_words b n) at ≡ got xs q) where
    pub list_at : (i : ℕ) (d : A) → i < length xs → f (first_words b n) (at + 1 + s * i) ≡ got (get_or xs i d) (at + 1 + s * i + s)
    list_at i d h = many_at (first_words b n) (get_or (words b) at 0) (at + 1) xs q (list_read f b n at xs q e refl) i d (omega (arith, list_count f b n at xs q e refl))

    pub list_inside : at + 1 + s * length xs ≤ n
    list_inside =
        let c : s * get_or (words b) at 0 ≡ s * length xs = ap (λ k. s * k) (list_count f b n at xs q e refl) in
        omega (
          arith,
          c,
          list_within f b n at (got_whole e),
          many_inside f s z (first_words b n) (get_or (words b) at 0) (at + 1) (got_whole (list_read f b n at xs q e refl)),
          length_first_words b n,
        )
