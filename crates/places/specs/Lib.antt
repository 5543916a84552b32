pub mod Selection
pub mod Puncture
pub mod Interleaver
pub mod Trains
pub mod Sending
pub mod Put
