-- What is known of a member and of a list that was read.
use Prim.Native.Nat.{ℕ, ◌+◌, ◌≤◌, ◌<◌}
use mathlib.Core.Path.{◌≡◌, sym, ap, ◌∙◌}
use mathlib.Core.List.{List, ◌∷◌}
use mathlib.Core.Bool.{Bool, true}
use native.Mathlib.Omega.{arith}
use native.Mathlib.Decide.{dec_lt}
use lib.ListN.{length, get_or, drop}
use lib.Seq.{drop-drop, get_or-drop}
use Rattle.blocks.specs.Frame.{first_words}
use Rattle.std.specs.Prelude.{Option}
use Rattle.reader.specs.Reader.{broken, got, Reader, list_of}
use Rattle.reader.specs.Value.{Whole}
use Rattle.std.proofs.Common.{subst}
use Rattle.lists.specs.Lists.{all_of}
use Rattle.blocks.specs.ByteLaws.{is_word}
use Rattle.utf8.specs.Utf8.{well_formed}
use Rattle.reader.specs.Text.{string, encode_string}
use Rattle.reader.specs.TextLaws.{string_codes}
use Rattle.reader.specs.ReaderLaws.{Codes, free, then_inv}
use Rattle.reader.proofs.ReadLaws.{read_inside}
use Rattle.reader.specs.Step.{step_of}
use Rattle.reader.specs.StepLaws.{make, word_none}
use Rattle.sheet.specs.Decode.{type_def, const_of, import_of, function_of}
use Rattle.sheet.specs.Encode.{encode_type, encode_const, encode_import, encode_func}
use Rattle.sheet.specs.Coded.{coded_type, coded_func}
use Rattle.sheet.proofs.TypeCodes.{type_codes, const_codes}
use Rattle.sheet.proofs.FuncCodes.{import_codes, function_codes}
use Rattle.open_layout.specs.Layout.{pos_of}
use Rattle.open_index.specs.declared.Part.{Part}
use Rattle.open_index.specs.declared.Part.TheVariants.{Strings, Types, Consts, Imports, Funcs}
use Rattle.open_index.specs.Index.{member_of, edges_of}
use Rattle.open_index.specs.SheetIndex.{const_some}

-- ── a member ──

position : {A : Type 0} (f : Reader A) (ws : List ℕ) (at : ℕ) {x : Option ℕ} → x ≡ step_of (f ws at) → x ≡ step_of (pos_of f ws at)
unfolding pos_of
position f ws at e = e ∙ sym (make (f ws at) (λ a. at))

module _ (ws : List ℕ) (at : ℕ) {x : Option ℕ} where
  pub member_string : x ≡ step_of (string ws at) → x ≡ step_of (member_of Strings ws at)
  unfolding member_of
  member_string = position string ws at

  pub member_type : x ≡ step_of (type_def ws at) → x ≡ step_of (member_of Types ws at)
  unfolding member_of
  member_type = position type_def ws at

  pub member_const : x ≡ step_of (const_of ws at) → x ≡ step_of (member_of Consts ws at)
  unfolding member_of
  member_const = position const_of ws at

  pub member_import : x ≡ step_of (import_of ws at) → x ≡ step_of (member_of Imports ws at)
  unfolding member_of
  member_import = position import_of ws at

  pub member_func : x ≡ step_of (function_of ws at) → x ≡ step_of (member_of Funcs ws at)
  unfolding member_of
  member_func = position function_of ws at

-- a part that has a name
module _ {part named : Part} (e : part ≡ named) (ws : List ℕ) (at : ℕ) where
  pub whole_as : Whole (list_of (member_of part) ws at) → Whole (list_of (member_of named) ws at)
  whole_as = subst (λ p. Whole (list_of (member_of p) ws at)) e

  pub room_as : (base n : ℕ) → base + length (edges_of part ws at) ≤ n → base + length (edges_of named ws at) ≤ n
  room_as base n = subst (λ p. base + length (edges_of p ws at) ≤ n) e

-- a member's value is where it stands
pos_of_is : {A : Type 0} (f : Reader A) (ws : List ℕ) (at s q : ℕ) → pos_of f ws at ≡ got s q → s ≡ at
unfolding pos_of
pos_of_is f ws at s q e = then_inv (f ws at) _ e λ a p e₁ e₂. cc

pub member_is : (part : Part) (ws : List ℕ) (at s q : ℕ) → member_of part ws at ≡ got s q → s ≡ at
unfolding member_of
member_is Strings ws at s q e = pos_of_is string ws at s q e
member_is Types ws at s q e = pos_of_is type_def ws at s q e
member_is Consts ws at s q e = pos_of_is const_of ws at s q e
member_is Imports ws at s q e = pos_of_is import_of ws at s q e
member_is Funcs ws at s q e = pos_of_is function_of ws at s q e

-- a member that was read begins below n, as each begins with a word
none_past : (part : Part) (bytes : List ℕ) (n at : ℕ) → n ≤ at → member_of part (first_words bytes n) at ≡ broken
unfolding member_of pos_of string type_def const_of import_of function_of
none_past Strings bytes n at h = rw (word_none bytes n at h)
none_past Types bytes n at h = rw (word_none bytes n at h)
none_past Consts bytes n at h = rw (word_none bytes n at h)
none_past Imports bytes n at h = rw (word_none bytes n at h)
none_past Funcs bytes n at h = rw (word_none bytes n at h)

pub member_in : (part : Part) (bytes : List ℕ) (n at s q : ℕ) → member_of part (first_words bytes n) at ≡ got s q → at < n
member_in part bytes n at s q e = go (dec_lt at n)
  where
    go : Dec (at < n) → at < n
    go (yes l) = l
    go (no l) = let b = none_past part bytes n at (omega arith) in let z : ◌≡◌ {A = ℕ} 0 1 = cc in absurd (omega arith)

-- a member that was read ends within the words
pos_of_inside : {A : Type 0} (f : Reader A) (enc : A → List ℕ) (ok : A → Bool) (ws : List ℕ) → Codes ws f enc ok → ((a : A) → 0 < length (enc a)) →
    (p s q : ℕ) → pos_of f ws p ≡ got s q → q ≤ length ws
unfolding pos_of
pos_of_inside f enc ok ws l h p s q e =
    then_inv (f ws p) _ e λ a p₁ e₁ e₂. let z : p₁ ≡ q = cc in omega (arith, read_inside ws f enc ok l p a p₁ e₁ (h a))

pub member_inside : (part : Part) (ws : List ℕ) → all_of is_word ws ≡ true → (p s q : ℕ) → member_of part ws p ≡ got s q → q ≤ length ws
unfolding member_of encode_string encode_type encode_import encode_func
member_inside Strings ws w = pos_of_inside string encode_string well_formed ws (string_codes ws w) (λ a. omega arith)
member_inside Types ws w = pos_of_inside type_def encode_type coded_type ws (type_codes ws) (λ a. omega arith)
member_inside Consts ws w = pos_of_inside const_of encode_const free ws (const_codes ws) const_some
member_inside Imports ws w = pos_of_inside import_of encode_import free ws (import_codes ws) (λ a. omega arith)
member_inside Funcs ws w = pos_of_inside function_of encode_func coded_func ws (function_codes ws) (λ a. omega arith)

-- ── the rest of a list ──

pub drop_next : {A : Type 0} (xs : List A) (i : ℕ) {y : A} {ys : List A} → drop i xs ≡ y ∷ ys → drop (i + 1) xs ≡ ys
drop_next xs i e = sym (drop-drop 1 i xs) ∙ ap (drop 1) e

pub get_d_here : {A : Type 0} (xs : List A) (i : ℕ) (d : A) {y : A} {ys : List A} → drop i xs ≡ y ∷ ys → get_or xs i d ≡ y
get_d_here xs i d e = ap (λ k. get_or xs k d) (omega arith) ∙ sym (get_or-drop i xs 0 d) ∙ ap (λ l. get_or l 0 d) e
