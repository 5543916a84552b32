pub mod Scrambler
pub mod Encoder
pub mod Register
pub mod Train
