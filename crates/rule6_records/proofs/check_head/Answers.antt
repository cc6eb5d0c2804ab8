use borrow.Author.Rules.{rules}
use Rattle.std.proofs.lemmas.Result.{err_from_is_err_and}
use Rattle.error.specs.VerdictLaws.{none_broken}
use Rattle.rule_signatures.specs.SignatureLaws.{checked_sig}
use Rattle.rule6_records.proofs.RecordSteps.{heading}
use Rattle.rule6_records.proofs.check_head.Goals as goal

pub returns-in_err-check_signature-clause-value : goal.returns-in_err-check_signature-clause-value
returns-in_err-check_signature-clause-value c =
    let p = err_from_is_err_and c.from_residual.result c.from_residual.ensures.1 in
    rw (p.1, p.2) (search (rules, heading, c.in_err-check_signature.was))

pub returns-in_err-check_registers-clause-value : goal.returns-in_err-check_registers-clause-value
returns-in_err-check_registers-clause-value c =
    let r = c.from_residual-in_err-check_registers in
    let p = err_from_is_err_and r.result r.ensures.1 in
    rw (p.1, p.2) (search (rules, heading, c.in_ok-check_signature.was, c.in_err-check_registers.was))

pub check_sig_params-requires-clause-has_sig : goal.check_sig_params-requires-clause-has_sig
check_sig_params-requires-clause-has_sig c = search (rules, checked_sig, c.in_ok-check_signature.was)

pub check_sig_params-requires-clause-c_value : goal.check_sig_params-requires-clause-c_value
check_sig_params-requires-clause-c_value c = search (rules, none_broken, c.in_ok-check_registers.was)

pub returns-clause-value : goal.returns-clause-value
returns-clause-value c = search (rules, heading, c.in_ok-check_signature.was, c.in_ok-check_registers.was)
