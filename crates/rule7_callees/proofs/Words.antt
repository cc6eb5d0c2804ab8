-- Words of what a function, an import or a type holds, and how many there are.
use Prim.Native.Nat.{ℕ, suc, ◌+◌, ◌*◌, ◌≤◌, ◌<◌}
use mathlib.Core.Path.{◌≡◌, refl, ap, ◌∙◌}
use mathlib.Core.List.{List, [], ◌∷◌, ◌++◌}
use native.Mathlib.Omega.{arith}
use lib.Dec.{eqb}
use lib.ListN.{length, get_or, length-append}
use Rattle.lists.specs.ListLaws.{length_concat_map, get_d_concat_map}
use Rattle.blocks.specs.Blocks.{words}
use Rattle.blocks.specs.Frame.{first_words}
use Rattle.reader.specs.Reader.{got, word, list_of, encode_list, encode_words}
use Rattle.reader.specs.ReaderLaws.{stands_in, words_codes}
use Rattle.reader.proofs.SizeLaws.{word_within, word_held}
use Rattle.sheet.specs.Module.{ValueType, basic, is_dyn, Arg, Func}
use Rattle.sheet.specs.Decode.{value_type, function_of, arg_of}
use Rattle.sheet.specs.Encode.{encode_value, encode_params, encode_arg, encode_handler, encode_switch, encode_inst, encode_func}
use Rattle.sheet.proofs.TypeCodes.{values_codes}
use Rattle.sheet.proofs.FuncCodes.{arg_codes, args_codes, function_codes}
use Rattle.open_index.specs.IndexLaws.{list_fit, indexed}
use Rattle.rule_signatures.specs.SignatureLaws.{dyn_word}

-- ── lists of words and of value types ──

module _ (b : List ℕ) (n at : ℕ) (xs : List ℕ) (q : ℕ) (e : list_of word (first_words b n) at ≡ got xs q) (i : ℕ) (h : i < length xs) where
  pub number_within : at + 1 + i < n
  number_within = omega (arith, word_within (list_of word) encode_words _ b n (words_codes (first_words b n)) at xs q e (suc i) (omega arith))

  pub number_held : {s : ℕ} → s ≡ get_or (words b) (at + 1 + i) 0 → s ≡ get_or xs i 0
  number_held {s} k =
      let z : at + 1 + i ≡ at + suc i = omega arith in
      word_held (list_of word) encode_words _ b n (words_codes (first_words b n)) at xs q e (suc i) (omega arith) (k ∙ ap (λ j. get_or (words b) j 0) z)

module _ (b : List ℕ) (n at : ℕ) (vs : List ValueType) (q : ℕ) (e : list_of value_type (first_words b n) at ≡ got vs q) (i : ℕ) (h : i < length vs) where
  long : suc i < length (encode_list encode_value vs)
  unfolding encode_value
  long = omega (arith, length_concat_map encode_value 1 (λ v. refl) vs)

  pub value_within : at + 1 + i < n
  value_within = omega (arith, word_within (list_of value_type) (encode_list encode_value) _ b n (values_codes (first_words b n)) at vs q e (suc i) long)

  pub value_dyn : {s : ℕ} → s ≡ get_or (words b) (at + 1 + i) 0 → eqb s 12 ≡ is_dyn (get_or vs i (basic 0))
  unfolding encode_value
  value_dyn {s} k =
      let z : at + 1 + i ≡ at + suc i = omega arith in
      let y : i ≡ 1 * i + 0 = omega arith in
      ap (λ w. eqb w 12)
      (word_held (list_of value_type) (encode_list encode_value) _ b n (values_codes (first_words b n)) at vs q e (suc i) long (k ∙ ap (λ j. get_or (words b) j 0) z)
      ∙ ap (λ j. get_or (encode_list encode_value vs) (suc j) 0) y
      ∙ get_d_concat_map encode_value 1 (λ v. refl) vs i 0 (basic 0) 0 h (omega arith))
      ∙ dyn_word (get_or vs i (basic 0))

-- ── no list has more members than there are words ──

fourth : (s : ℕ) (r p a k m t h u i : List ℕ) → length k ≤ length (s ∷ (r ++ p ++ a ++ k ++ m ++ t ++ h ++ u ++ i))
fourth s r p a k m t h u i =
    omega (
      arith,
      length-append (r ++ p ++ a) k,
      length-append (r ++ p ++ a ++ k) m,
      length-append (r ++ p ++ a ++ k ++ m) t,
      length-append (r ++ p ++ a ++ k ++ m ++ t) h,
      length-append (r ++ p ++ a ++ k ++ m ++ t ++ h) u,
      length-append (r ++ p ++ a ++ k ++ m ++ t ++ h ++ u) i,
    )

pub few_captures : (ws : List ℕ) (p : ℕ) (f : Func) (q : ℕ) → function_of ws p ≡ got f q → length f.captures ≤ length ws
unfolding encode_func encode_value
few_captures ws p f q e =
    let s = ((function_codes ws).found p f q e).stands in
    omega (
      arith,
      stands_in ws s,
      s.end,
      length_concat_map encode_value 1 (λ v. refl) f.captures,
      fourth f.sig (encode_list encode_value f.regs) (encode_params f.params) (encode_list (encode_list encode_arg) f.shapes) (encode_list encode_value f.captures)
          (encode_words f.names) (encode_words f.type_refs) (encode_list encode_handler f.handlers) (encode_list encode_switch f.tables) (encode_list encode_inst f.code),
    )

pub few_args : (ws : List ℕ) (at : ℕ) (xs : List (List Arg)) (q : ℕ) → list_of (list_of arg_of) ws at ≡ got xs q → (k : ℕ) → k < length xs → length (get_or xs k []) ≤ length ws
unfolding encode_arg
few_args ws at xs q e k h =
    let m = (indexed (list_of arg_of) ws at xs q e).member k [] h in
    let s = ((args_codes ws).found _ (get_or xs k []) _ m).stands in
    omega (arith, stands_in ws s, list_fit arg_of ws _ (get_or xs k []) _ encode_arg _ (arg_codes ws) (λ a. omega arith) m)

pub few_shapes : (ws : List ℕ) (at : ℕ) (xs : List (List Arg)) (q : ℕ) → list_of (list_of arg_of) ws at ≡ got xs q → q ≤ length ws → length xs < length ws
few_shapes ws at xs q e h = omega (arith, list_fit (list_of arg_of) ws at xs q (encode_list encode_arg) _ (args_codes ws) (λ a. omega arith) e)
