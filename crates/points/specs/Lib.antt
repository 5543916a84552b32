pub mod Levels
pub mod Points
