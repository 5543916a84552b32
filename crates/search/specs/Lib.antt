pub mod Stored
pub mod Bytes
pub mod Promises
pub mod Words
pub mod Followed
pub mod Spread
pub mod Kept
