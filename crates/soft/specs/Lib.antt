pub mod Soft
pub mod Carriers
pub mod Closed
pub mod Stored
