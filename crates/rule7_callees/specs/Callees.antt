-- What an instruction's own rule asks of what it names, and where it can be asked.
use Rattle.std.specs.Prelude.{ℕ, ◌≤◌, List, eqb}
use Rattle.error.specs.declared.TypeKind.{TypeKind}
use Rattle.error.specs.declared.LoadErrorKind.{LoadErrorKind}
use Rattle.error.specs.declared.LoadErrorKind.TheVariants.{WrongTypeKind}
use Rattle.error.specs.Answer.{unless, type_kind_word}
use Rattle.open_sheet.specs.declared.Opened.{Opened}
use Rattle.open_sheet.specs.Ready.{Ready}
use Rattle.rule_frames.specs.declared.Frame.{Frame}
use Rattle.rule_frames.specs.Frames.{Framed, Shaped}
use Rattle.rule7_arguments.specs.Arguments.{Tallied}

-- a type with such a kind word
unfoldable pub wanted_faults : TypeKind → ℕ → List LoadErrorKind
wanted_faults k w = unless (eqb w (type_kind_word k)) (WrongTypeKind k)

-- the sheet is ready, the frame is a function's, captures and arguments are counted, shapes measured; no sheet has more words
pub record Checkable (ws w : List ℕ) (o : Opened) (c : Frame) : Type 0 where
  pub ready : Ready ws w o
  pub framed : Framed ws c
  pub tallied : Tallied ws w o
  pub shaped : Shaped ws w o c
  pub few : o.layout.words ≤ 520192
