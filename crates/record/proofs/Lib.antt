pub mod RunLaws
pub mod LineLaws
pub mod Determined
