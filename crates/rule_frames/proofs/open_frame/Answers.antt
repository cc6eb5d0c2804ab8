use mathlib.Core.Path.{refl}
use borrow.Author.Rules.{rules}
use Rattle.rule_frames.proofs.FrameSteps.{frame_room, frame_whole, framed}
use Rattle.rule_frames.proofs.open_frame.Goals as goal

pub func_at-requires : goal.func_at-requires
func_at-requires c = search (rules, frame_room)

pub locate_body-body-requires : goal.locate_body-body-requires
locate_body-body-requires c = search (rules, frame_whole)

pub returns : goal.returns
returns c = record { framed = search (rules, framed); func_value = refl }
