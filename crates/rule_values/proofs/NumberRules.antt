-- Numbers of strings and of types, each a word.
use Prim.Native.Nat.{ℕ}
use mathlib.Core.Path.{◌≡◌, refl, ap, ◌∙◌}
use mathlib.Core.List.{List}
use native.Mathlib.Omega.{arith}
use lib.ListN.{length, get_or}
use Rattle.blocks.specs.Blocks.{words}
use Rattle.blocks.specs.Frame.{first_words}
use Rattle.error.specs.declared.What.TheVariants.{Types, Functions, Strings}
use Rattle.error.specs.Verdict.{Verdict}
use Rattle.error.specs.Answer.{in_range}
use Rattle.error.specs.Verdict.{verdict_of}
use Rattle.reader.specs.Reader.{got, word}
use Rattle.reader.specs.ReaderLaws.{free, one_word, word_codes}
use Rattle.reader.proofs.SizeLaws.{first_held}
use Rattle.open_layout.specs.Opened.{module_in}
use Rattle.open_sheet.specs.declared.Opened.{Opened}
use Rattle.open_sheet.specs.Ready.{Opens}
use Rattle.open_sheet.specs.ReadyLaws.{count_strings, count_types, count_funcs}
use Rattle.types.specs.Types.{string_faults, function_faults}

-- ── a number, judged by the count that was opened ──

module _ (ws : List ℕ) (o : Opened) (x : Opens ws o) (i : ℕ) {r : Verdict} where
  pub string_number_lem : r ≡ verdict_of (in_range Strings o.counts.strings i) → r ≡ verdict_of (string_faults (module_in ws) i)
  unfolding string_faults
  string_number_lem k = k ∙ ap (λ c. verdict_of (in_range Strings c i)) (count_strings ws o x)

  pub function_number : r ≡ verdict_of (in_range Functions o.counts.funcs i) → r ≡ verdict_of (function_faults (module_in ws) i)
  unfolding function_faults
  function_number k = k ∙ ap (λ c. verdict_of (in_range Functions c i)) (count_funcs ws o x)

  pub type_number_lem : r ≡ verdict_of (in_range Types o.counts.types i) → r ≡ verdict_of (in_range Types (length (module_in ws).types) i)
  type_number_lem k = k ∙ ap (λ c. verdict_of (in_range Types c i)) (count_types ws o x)

-- ── a list of them ──

module _ (b : List ℕ) (n : ℕ) (o : Opened) (x : Opens (first_words b n) o) (p a q : ℕ) (e : word (first_words b n) p ≡ got a q) where
  here : get_or (words b) p 0 ≡ a
  here = first_held word one_word free b n (word_codes (first_words b n)) p a q e (omega arith) refl

  pub strings_same : in_range Strings o.counts.strings (get_or (words b) p 0) ≡ string_faults (module_in (first_words b n)) a
  unfolding string_faults
  strings_same = ap (in_range Strings o.counts.strings) here ∙ ap (λ c. in_range Strings c a) (count_strings (first_words b n) o x)

  pub refs_same : in_range Types o.counts.types (get_or (words b) p 0) ≡ in_range Types (length (module_in (first_words b n)).types) a
  refs_same = ap (in_range Types o.counts.types) here ∙ ap (λ c. in_range Types c a) (count_types (first_words b n) o x)
