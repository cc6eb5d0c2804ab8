use borrow.Author.Rules.{rules}
use Rattle.error.specs.Answer.{kind_numbers}
use Rattle.error.proofs.NumbersLaws.{by_kind, payloads}
use Rattle.error.proofs.numbers.refusal.Goals as goal

pub returns-in-Decode : goal.returns-in-Decode
returns-in-Decode c = unfold kind_numbers in by_kind _ _ _ c.in-Decode.is c.at.ensures

pub returns-in-UnresolvedImport : goal.returns-in-UnresolvedImport
returns-in-UnresolvedImport c = search (rules, payloads)

pub returns-in-OutOfRange : goal.returns-in-OutOfRange
returns-in-OutOfRange c = search (rules, payloads)

pub returns-in-BadSignature : goal.returns-in-BadSignature
returns-in-BadSignature c = unfold kind_numbers in by_kind _ _ _ c.in-BadSignature.is c.at-in-BadSignature.ensures

pub returns-in-ParamMismatch : goal.returns-in-ParamMismatch
returns-in-ParamMismatch c = unfold kind_numbers in by_kind _ _ _ c.in-ParamMismatch.is c.at-in-ParamMismatch.ensures

pub returns-in-EmptyCode : goal.returns-in-EmptyCode
returns-in-EmptyCode c = unfold kind_numbers in by_kind _ _ _ c.in-EmptyCode.is c.at-in-EmptyCode.ensures

pub returns-in-FallsThrough : goal.returns-in-FallsThrough
returns-in-FallsThrough c = unfold kind_numbers in by_kind _ _ _ c.in-FallsThrough.is c.at-in-FallsThrough.ensures

pub returns-in-ArityMismatch : goal.returns-in-ArityMismatch
returns-in-ArityMismatch c = search (rules, payloads)

pub returns-in-CalleeHasCaptures : goal.returns-in-CalleeHasCaptures
returns-in-CalleeHasCaptures c = unfold kind_numbers in by_kind _ _ _ c.in-CalleeHasCaptures.is c.at-in-CalleeHasCaptures.ensures

pub returns-in-PromoteNotDynamic : goal.returns-in-PromoteNotDynamic
returns-in-PromoteNotDynamic c = unfold kind_numbers in by_kind _ _ _ c.in-PromoteNotDynamic.is c.at-in-PromoteNotDynamic.ensures

pub returns-in-WrongTypeKind : goal.returns-in-WrongTypeKind
returns-in-WrongTypeKind c = search (rules, payloads)

pub returns-in-BadModifier : goal.returns-in-BadModifier
returns-in-BadModifier c = unfold kind_numbers in by_kind _ _ _ c.in-BadModifier.is c.at-in-BadModifier.ensures

pub returns-in-InvalidHandler : goal.returns-in-InvalidHandler
returns-in-InvalidHandler c = unfold kind_numbers in by_kind _ _ _ c.in-InvalidHandler.is c.at-in-InvalidHandler.ensures

pub returns-in-CatchNotDyn : goal.returns-in-CatchNotDyn
returns-in-CatchNotDyn c = unfold kind_numbers in by_kind _ _ _ c.in-CatchNotDyn.is c.at-in-CatchNotDyn.ensures

pub returns-in-TailCallInTry : goal.returns-in-TailCallInTry
returns-in-TailCallInTry c = unfold kind_numbers in by_kind _ _ _ c.in-TailCallInTry.is c.at-in-TailCallInTry.ensures

pub returns-in-BadParent : goal.returns-in-BadParent
returns-in-BadParent c = unfold kind_numbers in by_kind _ _ _ c.in-BadParent.is c.at-in-BadParent.ensures

pub returns-in-InheritanceTooDeep : goal.returns-in-InheritanceTooDeep
returns-in-InheritanceTooDeep c = unfold kind_numbers in by_kind _ _ _ c.in-InheritanceTooDeep.is c.at-in-InheritanceTooDeep.ensures

pub returns-in-BadConstant : goal.returns-in-BadConstant
returns-in-BadConstant c = unfold kind_numbers in by_kind _ _ _ c.in-BadConstant.is c.at-in-BadConstant.ensures

pub returns-in-BadHook : goal.returns-in-BadHook
returns-in-BadHook c = search (rules, payloads)

pub returns-in-BadStart : goal.returns-in-BadStart
returns-in-BadStart c = unfold kind_numbers in by_kind _ _ _ c.in-BadStart.is c.at-in-BadStart.ensures

pub returns-in-BadParamList : goal.returns-in-BadParamList
returns-in-BadParamList c = unfold kind_numbers in by_kind _ _ _ c.in-BadParamList.is c.at-in-BadParamList.ensures

pub returns-in-BadCallShape : goal.returns-in-BadCallShape
returns-in-BadCallShape c = unfold kind_numbers in by_kind _ _ _ c.in-BadCallShape.is c.at-in-BadCallShape.ensures

pub returns-in-BadHostList : goal.returns-in-BadHostList
returns-in-BadHostList c = unfold kind_numbers in by_kind _ _ _ c.in-BadHostList.is c.at-in-BadHostList.ensures

pub returns-in-ShortSlice : goal.returns-in-ShortSlice
returns-in-ShortSlice c = unfold kind_numbers in by_kind _ _ _ c.in-ShortSlice.is c.at-in-ShortSlice.ensures

pub returns-in-NotLinked : goal.returns-in-NotLinked
returns-in-NotLinked c = unfold kind_numbers in by_kind _ _ _ c.in-NotLinked.is c.at-in-NotLinked.ensures

pub returns-in-MissedStruct : goal.returns-in-MissedStruct
returns-in-MissedStruct c = unfold kind_numbers in by_kind _ _ _ c.in-MissedStruct.is c.at-in-MissedStruct.ensures

pub returns-in-ExportNameOutOfRange : goal.returns-in-ExportNameOutOfRange
returns-in-ExportNameOutOfRange c = search (rules, payloads)

pub returns-in-DuplicateExport : goal.returns-in-DuplicateExport
returns-in-DuplicateExport c = search (rules, payloads)
