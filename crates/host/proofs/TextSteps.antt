-- For the code that passes strings which were read before.
use Prim.Native.Nat.{ℕ, ◌+◌, ◌/◌, ◌≤◌}
use mathlib.Core.Path.{◌≡◌, sym, ap, ◌∙◌}
use mathlib.Core.List.{List}
use native.Mathlib.Omega.{arith}
use lib.ListN.{get_or}
use Rattle.blocks.specs.Blocks.{words}
use Rattle.blocks.specs.Frame.{first_words}
use Rattle.blocks.proofs.FirstWords.{length_first_words, first_words_at}
use Rattle.std.specs.Prelude.{Some}
use Rattle.reader.specs.Reader.{got}
use Rattle.reader.specs.Text.{string}
use Rattle.reader.specs.Step.{step_of}
use Rattle.reader.specs.Value.{Whole}
use Rattle.reader.specs.ValueLaws.{whole_inv}
use Rattle.host.specs.Texts.{Packed, packed}

module _ (b : List ℕ) (n at : ℕ) where
  -- its text, its words, and its length as code reads it
  read_text : {C : Type 0} → Whole (string (first_words b n) at)
      → ((s : List ℕ) (e w : ℕ) → string (first_words b n) at ≡ got s e → Packed (first_words b n) at e w → w ≡ get_or (words b) at 0 → C) → C
  read_text h k =
      whole_inv (string (first_words b n) at) h λ s e g. packed (first_words b n) at s e g λ w t.
      k s e w g t (t.here ∙ first_words_at b n at (omega (arith, t.end, t.within, length_first_words b n)))

  pub text_within : Whole (string (first_words b n) at) → at + 1 + (get_or (words b) at 0 + 3) / 4 ≤ n
  text_within h = read_text h λ s e w g t i. omega (arith, t.end, t.within, length_first_words b n)

  pub text_end : {w : ℕ} → Whole (string (first_words b n) at) → w ≡ get_or (words b) at 0 → Some (at + 1 + (w + 3) / 4) ≡ step_of (string (first_words b n) at)
  unfolding step_of
  text_end {w} h e =
      read_text h λ s q v g t i.
      let z : at + 1 + (w + 3) / 4 ≡ q = omega (arith, t.end) in
      ap Some z ∙ sym (ap step_of g)
