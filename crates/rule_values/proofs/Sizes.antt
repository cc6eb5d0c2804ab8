-- Fields and methods take two words each; lists of values of a fixed size.
use Prim.Native.Nat.{ℕ, zero, suc, ◌+◌, ◌*◌, ◌≤◌}
use mathlib.Core.Path.{◌≡◌, refl, ap, ◌∙◌}
use mathlib.Core.List.{List, ◌∷◌}
use native.Mathlib.Omega.{arith}
use lib.ListN.{length, get_or, take}
use Rattle.blocks.specs.Blocks.{words}
use Rattle.blocks.specs.Frame.{first_words}
use Rattle.reader.specs.Reader.{got, Reader, and_then, many, list_of}
use Rattle.reader.specs.ReaderLaws.{free, then_inv}
use Rattle.reader.proofs.SizeLaws.{Takes, coded_takes, list_read, many_takes, many_length}
use Rattle.sheet.specs.Decode.{field_of, method_of}
use Rattle.sheet.specs.Encode.{encode_value, encode_field, encode_method}
use Rattle.sheet.specs.Coded.{coded_field}
use Rattle.sheet.proofs.TypeCodes.{field_codes, method_codes}

pub field_takes : Takes field_of 2
unfolding encode_field encode_value
field_takes = coded_takes field_of encode_field coded_field 2 field_codes (λ a. refl) (omega arith)

pub method_takes : Takes method_of 2
unfolding encode_method
method_takes = coded_takes method_of encode_method free 2 method_codes (λ a. refl) (omega arith)

-- where a list ends, and how many there are
pub list_takes : {A : Type 0} (f : Reader A) (s : ℕ) (z : Takes f s) (b : List ℕ) (n at : ℕ) {w : ℕ} (xs : List A) (q : ℕ) → w ≡ get_or (words b) at 0 → list_of f (first_words b n) at ≡ got xs q
    → (q ≡ at + 1 + s * w) × (length xs ≡ w)
list_takes f s z b n at {w} xs q e g =
    let m = list_read f b n at xs q g e in
    (many_takes f s z (first_words b n) w (at + 1) xs q m, many_length w f (first_words b n) (at + 1) xs q m)

-- the first k of c values
pub many_front : {A C : Type 0} (f : Reader A) (ws : List ℕ) (k c p : ℕ) (xs : List A) (q : ℕ) → many c f ws p ≡ got xs q → k ≤ c → ((r : ℕ) → many k f ws p ≡ got (take k xs) r → C) → C
unfolding many
many_front f ws zero c p xs q e h g = g p refl
many_front f ws (suc k) zero p xs q e h g = absurd (omega arith)
many_front {A} {C} f ws (suc k) (suc c) p xs q e h g =
    then_inv (f ws p) _ e λ a p₁ e₁ e₂. then_inv (many c f ws p₁) _ e₂ λ ys p₂ e₃ e₄.
    let x : a ∷ ys ≡ xs = cc in
    many_front f ws k c p₁ ys p₂ e₃ (omega arith) λ r i.
    g r (ap (λ y. and_then y (λ a q. and_then (many k f ws q) (λ xs r. got (a ∷ xs) r))) e₁ ∙ ap (λ y. and_then y (λ xs r. got (a ∷ xs) r)) i ∙ ap (λ l. got (take (suc k) l) r) x)
