-- Rule 4 constant by constant.
use Rattle.std.specs.Prelude.{ℕ, List}
use Rattle.lists.specs.Lists.{concat_map_from}
use Rattle.error.specs.declared.LoadErrorKind.{LoadErrorKind}
use Rattle.sheet.specs.Module.{Module}
use Rattle.consts.specs.Consts.{depths, const_faults}

-- what is broken in the constants, in order
unfoldable pub broken_consts : ℕ → Module → List LoadErrorKind
broken_consts most m = concat_map_from 0 (const_faults most m (depths m.consts)) m.consts
