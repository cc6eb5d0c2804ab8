pub mod MemberSteps
