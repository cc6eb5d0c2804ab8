pub mod Reading
pub mod Framing
pub mod ByteAccessLaws
pub mod FirstWords
pub mod FramedLaws
pub mod WrittenLaws
