use borrow.Author.Rules.{rules}
use native.Mathlib.Omega.{arith}
use Rattle.rule_signatures.proofs.SigSteps.{sig_room, sig_params_within, sig_params_whole, sig_params_lem}
use Rattle.rule_signatures.proofs.params_at.Goals as goal

pub overflow_add-result : goal.overflow_add-result
overflow_add-result c = omega (arith, sig_params_within _ _ _ c.requires.ready _ c.requires.has_sig c.type_at.ensures)

pub returns : goal.returns
returns c = search (rules, sig_room, sig_params_whole, sig_params_lem)
