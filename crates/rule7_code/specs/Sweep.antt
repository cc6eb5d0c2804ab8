-- Rule 7 over the instructions, and how far handlers reach.
use Rattle.std.specs.Prelude.{ℕ, ◌+◌, ◌*◌, ◌<◌, max, ◌≡◌, List, [], ◌∷◌, cond, eqb, ltb, get_or, set}
use Rattle.lists.specs.Lists.{concat_map_from}
use Rattle.blocks.specs.Blocks.{words}
use Rattle.error.specs.declared.LoadError.{LoadError}
use Rattle.sheet.specs.Module.{Handler, Func, Module}
use Rattle.code.specs.Code.{placed_faults}
use Rattle.region.specs.Region.{Off, Frame}
use Rattle.open_sheet.specs.declared.Opened.{Opened}
use Rattle.rule_frames.specs.declared.Frame as frames
use Rattle.rule_frames.specs.Frames.{func_of}

unfoldable pub insts_faults : Module → ℕ → Func → List LoadError
insts_faults m n f = concat_map_from 0 (placed_faults m n f) f.code

-- ── how far handlers reach ──

-- the largest end of those that start before pc; 0 if none does
unfoldable pub reach_of : ℕ → List Handler → ℕ
reach_of pc [] = 0
reach_of pc (h ∷ hs) = max (cond (ltb h.start pc) h.end 0) (reach_of pc hs)

-- the largest end of those that start at s; 0 if none does
unfoldable pub end_at : ℕ → List Handler → ℕ
end_at s [] = 0
end_at s (h ∷ hs) = max (cond (eqb h.start s) h.end 0) (end_at s hs)

-- w with the handler at `at` marked: the word of its start is its end, if that is larger
unfoldable pub mark_at : List ℕ → ℕ → List ℕ → ℕ → List ℕ
mark_at b at w base = set w (base + get_or (words b) at 0) (max (get_or w (base + get_or (words b) at 0) 0) (get_or (words b) (at + 1) 0))

-- word 6 * words + s is the largest end of the handlers that start at s
pub record Ends (ws w : List ℕ) (o : Opened) (c : frames.Frame) : Type 0 where
  pub ends : (s : ℕ) → s < c.code → get_or w (6 * o.layout.words + s) 0 ≡ end_at s (func_of ws c).handlers

-- and no other words were written
pub record Marked (ws w₀ w : List ℕ) (o : Opened) (c : frames.Frame) : Type 0 where
  pub frame : Frame (Off (6 * o.layout.words) (6 * o.layout.words + c.code)) w₀ w
  pub ends : Ends ws w o c
