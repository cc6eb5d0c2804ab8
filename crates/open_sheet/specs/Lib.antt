pub mod Ready
pub mod ReadyLaws
pub mod MemberLaws
pub mod Filing
