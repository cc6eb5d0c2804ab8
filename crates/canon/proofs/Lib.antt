pub mod CanonLaws
