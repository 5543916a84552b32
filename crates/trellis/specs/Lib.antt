pub mod Wanted
pub mod Heard
pub mod Passes
pub mod Partial
pub mod Compared
