-- Writes side by side are one write.
use Rattle.std.specs.Prelude.{◌≡◌, List, ◌++◌, ℕ, ◌+◌, ◌≤◌, length, take, drop}
use Rattle.std.proofs.Common.{sym, ap, ap₂, ◌∙◌, append_assoc, arith, length-append, drop-drop}
use Rattle.std.proofs.Math.Seq.{paste, take-length}
use Rattle.std.proofs.lemmas.List.Edits.{take-paste, drop-paste}

module _ {A : Type 0} (d : List A) (a : ℕ) (s t : List A) (h : a ≤ length d) where
  before : take (a + length s) (paste d a s (length s)) ≡ take a d ++ s
  before = take-paste d a s (length s) h (omega arith) ∙ ap (λ x. take a d ++ x) (take-length s)

  after : drop ((a + length s) + length t) (paste d a s (length s)) ≡ drop (a + length (s ++ t)) d
  after =
      let f : (a + length s) + length t ≡ a + length (s ++ t) = omega (arith, length-append s t) in
      sym (drop-drop (length t) (a + length s) (paste d a s (length s)))
      ∙ ap (drop (length t)) (drop-paste d a s (length s) h (omega arith))
      ∙ drop-drop (length t) (a + length s) d
      ∙ ap (λ k. drop k d) f

  pub paste_paste : paste (paste d a s (length s)) (a + length s) t (length t) ≡ paste d a (s ++ t) (length (s ++ t))
  paste_paste =
      ap₂ (λ x y. x ++ y) (ap₂ (λ x y. x ++ y) before (take-length t) ∙ append_assoc (take a d) s t ∙ ap (λ x. take a d ++ x) (sym (take-length (s ++ t)))) after
