-- The table in code holds the definitions' shapes: it is compared once as a whole, and read at any hook.
use Prim.Native.Nat.{ℕ, ◌<◌}
use mathlib.Core.Path.{◌≡◌, ap}
use mathlib.Core.List.{List, map}
use lib.ListN.{get_or}
use Rattle.lists.specs.ListLaws.{map_at}
use Rattle.hooks.specs.Hooks.{HookShape, binary, hook_shapes, hook_shape}
use Rattle.rule8_shapes.specs.declared.Shape.{Shape}
use Rattle.rule8_shapes.specs.Shapes.{shape}

-- a shape of the definitions as code has it
abbrev pub coded : HookShape → Shape
coded s = record { params = s.params; result = s.result }

abbrev pub shapes : List Shape
shapes = map coded hook_shapes

pub shape_at : (h : ℕ) (d : Shape) → h < 31 → shape (get_or shapes h d) ≡ hook_shape h
unfolding hook_shape shape
shape_at h d l = ap shape (map_at coded binary d hook_shapes h l)
