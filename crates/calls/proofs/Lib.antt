pub mod ArgumentCallLaws
pub mod CallLaws
pub mod Cheap
pub mod EditionCallLaws
pub mod ExportCallLaws
