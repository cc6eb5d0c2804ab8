pub mod Signature
pub mod SignatureLaws
