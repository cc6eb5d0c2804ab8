-- How deep a constant is, or how it is broken first, given the depths of the constants before it.
use Rattle.std.specs.Prelude.{ℕ, List, [], ◌∷◌, ◌++◌, leb, ltb, Result, Err, Ok}
use Rattle.lists.specs.Lists.{all_of}
use Rattle.error.specs.declared.LoadErrorKind.{LoadErrorKind}
use Rattle.error.specs.declared.LoadErrorKind.TheVariants.{BadConstant}
use Rattle.error.specs.Answer.{unless}
use Rattle.sheet.specs.Module.{Const, Module}
use Rattle.consts.specs.Consts.{children_of, depth_of, string_const_faults}

-- the depth, if nothing is broken
unfoldable pub nested_of : List LoadErrorKind → ℕ → Result ℕ LoadErrorKind
nested_of [] depth = Ok depth
nested_of (k ∷ ks) depth = Err k

-- the children are below i, and the depth is not over the most
unfoldable pub nest_faults : ℕ → ℕ → List ℕ → ℕ → List LoadErrorKind
nest_faults most i cs depth = unless (all_of (λ c. ltb c i) cs) BadConstant ++ unless (leb depth most) BadConstant

-- of constant number i, by its children
unfoldable pub nesting : ℕ → List ℕ → ℕ → List ℕ → Result ℕ LoadErrorKind
nesting most done i cs = nested_of (nest_faults most i cs (depth_of done cs)) (depth_of done cs)

-- of constant number i
unfoldable pub const_nesting : Module → ℕ → List ℕ → ℕ → Const → Result ℕ LoadErrorKind
const_nesting m most done i k = nested_of (string_const_faults m k ++ nest_faults most i (children_of k) (depth_of done (children_of k))) (depth_of done (children_of k))
