pub mod Catch
pub mod Links
pub mod Painting
