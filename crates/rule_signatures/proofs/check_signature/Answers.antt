use borrow.Author.Rules.{rules}
use Rattle.open_sheet.specs.ReadyLaws.{type_room, type_whole}
use Rattle.rule_signatures.proofs.SigSteps.{type_missing, type_there, signature_holds, signature_broken}
use Rattle.rule_signatures.proofs.check_signature.Goals as goal

pub returns-in_err-type_in : goal.returns-in_err-type_in
returns-in_err-type_in c =
    let s = type_missing _ _ _ c.requires _ c.type_in.ensures (c.in_err-type_in.was {u = tt}) in
    search (rules, s)

pub type_at-requires : goal.type_at-requires
type_at-requires c =
    let t = type_there _ _ _ c.requires _ c.type_in.ensures (c.in_ok-type_in.was {u = tt}) in
    search (rules, type_room, t)

pub is_signature-requires : goal.is_signature-requires
is_signature-requires c =
    let t = type_there _ _ _ c.requires _ c.type_in.ensures (c.in_ok-type_in.was {u = tt}) in
    search (rules, type_whole, t)

pub returns-then-is_signature : goal.returns-then-is_signature
returns-then-is_signature c = search (rules, signature_holds, c.in_ok-type_in.was)

pub returns : goal.returns
returns c = search (rules, signature_broken, c.in_ok-type_in.was)
