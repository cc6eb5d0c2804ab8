-- A function with its parts at hand: where they stand, how many members they have, and the lengths of its call shapes in lent words.
use Rattle.std.specs.Prelude.{ℕ, ◌+◌, ◌*◌, ◌<◌, ◌≡◌, List, [], length, get_or}
use Rattle.sheet.specs.Module.{Func}
use Rattle.open_layout.specs.Opened.{module_in}
use Rattle.code.specs.Callee.{func_at}
use Rattle.open_sheet.specs.declared.Opened.{Opened}
use Rattle.rule_bodies.specs.Bodies.{Placed}
use Rattle.rule_frames.specs.declared.Frame.{Frame}

-- the function that a frame is of
unfoldable pub func_of : List ℕ → Frame → Func
func_of ws c = func_at (module_in ws) c.func.0

pub record Framed (ws : List ℕ) (c : Frame) : Type 0 where
  pub here : c.func.0 < length (module_in ws).funcs
  pub placed : Placed ws (func_of ws c) c.body
  pub regs : c.regs ≡ length (func_of ws c).regs
  pub shapes : c.shapes ≡ length (func_of ws c).shapes
  pub captures : c.captures ≡ length (func_of ws c).captures
  pub names : c.names ≡ length (func_of ws c).names
  pub type_refs : c.type_refs ≡ length (func_of ws c).type_refs
  pub handlers : c.handlers ≡ length (func_of ws c).handlers
  pub tables : c.tables ≡ length (func_of ws c).tables
  pub code : c.code ≡ length (func_of ws c).code

-- word 7 * words + k is the length of call shape k
pub record Shaped (ws w : List ℕ) (o : Opened) (c : Frame) : Type 0 where
  pub lengths : (k : ℕ) → k < length (func_of ws c).shapes → get_or w (7 * o.layout.words + k) 0 ≡ length (get_or (func_of ws c).shapes k [])
