pub mod Refusal
pub mod Modes
pub mod Sizes
pub mod Pdus
pub mod Kinds
pub mod Refusals
pub mod Description
pub mod Passed
