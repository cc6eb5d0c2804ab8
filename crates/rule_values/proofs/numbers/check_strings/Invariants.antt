use lib.ListN.{get_or}
use Rattle.blocks.specs.Blocks.{words}
use Rattle.error.specs.declared.What.TheVariants.{Strings}
use Rattle.error.specs.Answer.{in_range}
use Rattle.rule_values.proofs.numbers.check_strings.Given as goal

abbrev pub ghost-check_each : goal.ghost-check_each
ghost-check_each a = λ p. in_range Strings a.check.1.now (get_or (words a.check.0.now) p 0)
