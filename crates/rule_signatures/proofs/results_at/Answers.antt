use borrow.Author.Rules.{rules}
use native.Mathlib.Omega.{arith}
use Rattle.rule_signatures.proofs.SigSteps.{sig_room, sig_params_within, sig_results_within, sig_results_whole, sig_results_lem}
use Rattle.rule_signatures.proofs.results_at.Goals as goal

pub overflow_add-p : goal.overflow_add-p
overflow_add-p c = omega (arith, sig_params_within _ _ _ c.requires.ready _ c.requires.has_sig c.type_at-p.ensures)

pub overflow_add-result : goal.overflow_add-result
overflow_add-result c = omega (arith, sig_results_within _ _ _ c.requires.ready _ c.requires.has_sig c.type_at-p.ensures c.word-params.ensures)

pub overflow_add-result-2 : goal.overflow_add-result-2
overflow_add-result-2 c = omega (arith, sig_results_within _ _ _ c.requires.ready _ c.requires.has_sig c.type_at-p.ensures c.word-params.ensures)

pub returns : goal.returns
returns c = search (rules, sig_room, sig_results_whole, sig_results_lem)
