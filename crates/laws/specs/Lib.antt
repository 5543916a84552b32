pub mod Lists
pub mod Sums
pub mod Ladder
pub mod Scatter
pub mod Answers
pub mod Packing
pub mod Signed
