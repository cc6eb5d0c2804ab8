use Rattle.rule7_parts.proofs.HandlerSteps.{handler_judged}
use Rattle.rule7_parts.proofs.check_handlers.Given as goal

abbrev pub ghost-check_each : goal.ghost-check_each
ghost-check_each a = handler_judged a.check.0.now a.check.1.now.layout.words a.check.2.now
