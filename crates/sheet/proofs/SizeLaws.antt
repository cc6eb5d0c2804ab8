-- Readers of the sheet whose values have a fixed number of words.
use Rattle.std.specs.Prelude.{ℕ, ◌≡◌, refl, List}
use Rattle.std.proofs.Common.{◌∙◌, arith}
use Rattle.std.specs.Prelude.{Option}
use Rattle.reader.specs.Reader.{◌>>=◌, pure, word, many, list_of}
use Rattle.reader.specs.Step.{step_of}
use Rattle.reader.proofs.RecordSteps.{Sized, sized_next, sized_two, sized_list, lists_alike}
use Rattle.reader.proofs.SizeLaws.{Takes, coded_takes}
use Rattle.sheet.specs.Decode.{value_type, arg_of, handler_of}
use Rattle.sheet.specs.Encode.{encode_value}
use Rattle.sheet.specs.Coded.{coded_value}
use Rattle.sheet.proofs.TypeCodes.{value_codes}

pub value_takes : Takes value_type 1
unfolding encode_value
value_takes = coded_takes value_type encode_value coded_value 1 value_codes (λ a. refl) (omega arith)

arg_sized : Sized arg_of 2
unfolding arg_of
arg_sized = sized_two λ k a. record { kind = k; name = a }

pub handler_sized : Sized handler_of 4
unfolding handler_of
handler_sized =
    sized_next (λ s. word >>= (λ e. word >>= (λ t. word >>= (λ c. pure (record { start = s; end = e; target = t; catch = c }))))) λ s.
    sized_next (λ e. word >>= (λ t. word >>= (λ c. pure (record { start = s; end = e; target = t; catch = c })))) λ e.
    sized_two λ t c. record { start = s; end = e; target = t; catch = c }

-- call shapes end where lists of two words do
pub shapes_alike : (ws : List ℕ) (p : ℕ) {r : Option ℕ} → r ≡ step_of (list_of (list_of (many 2 word)) ws p) → r ≡ step_of (list_of (list_of arg_of) ws p)
shapes_alike ws p e = e ∙ lists_alike (list_of (many 2 word)) (list_of arg_of) ws (λ q. sized_list arg_sized ws q refl) p
