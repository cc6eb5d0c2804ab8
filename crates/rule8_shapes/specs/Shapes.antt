-- A hook's shape as the definitions have it.
use Rattle.hooks.specs.Hooks.{HookShape}
use Rattle.rule8_shapes.specs.declared.Shape.{Shape}

unfoldable pub shape : Shape → HookShape
shape s = record { params = s.params; result = s.result }
