use native.Mathlib.Omega.{arith}
use mathlib.Core.Path.{◌∙◌}
use Rattle.table_hooks.proofs.BindSteps.{bound_small, bound_put}
use Rattle.table_hooks.proofs.put_binding.Goals as goal

pub put-requires : goal.put-requires
put-requires c = (
  omega (arith, c.requires.binding_at.hook, c.requires.first_in_bounds, c.widen-hook.ensures, c.word.ensures),
  omega (arith, bound_small _ _ (c.widen-kind.ensures ∙ c.word-2.ensures) (c.widen-index.ensures ∙ c.word-3.ensures) _ c.requires.binding_at),
)

pub returns : goal.returns
returns c =
    bound_put _ _ (c.widen-kind.ensures ∙ c.word-2.ensures) (c.widen-index.ensures ∙ c.word-3.ensures) c.args.table.now _ c.args.first (c.widen-hook.ensures ∙ c.word.ensures) c.put.ensures
