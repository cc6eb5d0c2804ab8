-- The words of a hook's binding, as code reads them.
use Rattle.std.specs.Prelude.{ℕ, ◌+◌, ◌<◌, ◌≡◌, List, ltb, get_or}
use Rattle.std.proofs.Math.Path.{refl}
use Rattle.std.proofs.Common.{arith}
use borrow.Author.Tests.{ltb-true}
use Rattle.lists.specs.ListLaws.{and_first}
use Rattle.blocks.specs.Blocks.{words}
use Rattle.blocks.specs.Frame.{first_words}
use Rattle.reader.specs.Reader.{got}
use Rattle.reader.proofs.SizeLaws.{word_within, word_held, first_held}
use Rattle.sheet.specs.Module.{Hook}
use Rattle.sheet.specs.Decode.{hook_of}
use Rattle.sheet.specs.Encode.{encode_hook}
use Rattle.sheet.specs.Coded.{coded_hook}
use Rattle.sheet.proofs.ModuleCodes.{hook_codes}

module _ (b : List ℕ) (n at : ℕ) {a : Hook} {q : ℕ} (e : hook_of (first_words b n) at ≡ got a q) where
  pub hook_end : q ≡ at + 3
  unfolding encode_hook
  hook_end = ((hook_codes (first_words b n)).found at a q e).stands.end

  pub hook_in : at + 2 < n
  unfolding encode_hook
  hook_in = word_within hook_of encode_hook coded_hook b n (hook_codes (first_words b n)) at a q e 2 (omega arith)

  pub hook_number : get_or (words b) at 0 ≡ a.hook
  unfolding encode_hook
  hook_number = first_held hook_of encode_hook coded_hook b n (hook_codes (first_words b n)) at a q e (omega arith) refl

  pub hook_kind : get_or (words b) (at + 1) 0 ≡ a.kind
  unfolding encode_hook
  hook_kind = word_held hook_of encode_hook coded_hook b n (hook_codes (first_words b n)) at a q e 1 (omega arith) refl

  pub hook_index : get_or (words b) (at + 2) 0 ≡ a.index
  unfolding encode_hook
  hook_index = word_held hook_of encode_hook coded_hook b n (hook_codes (first_words b n)) at a q e 2 (omega arith) refl

  pub hook_known : a.hook < 31
  unfolding coded_hook
  hook_known = ltb-true a.hook 31 (and_first (ltb a.hook 31) (ltb a.kind 2) ((hook_codes (first_words b n)).found at a q e).fine)
