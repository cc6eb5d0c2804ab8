use borrow.Author.Rules.{rules}
use Rattle.rule8_shapes.proofs.Tables.{shape_at}
use Rattle.rule8_shapes.proofs.hook_shape.Goals as goal

pub returns : goal.returns
returns c = shape_at c.args.hook _ (search rules)
