pub mod P1Laws
pub mod KeptLaws
pub mod WindowLaws
pub mod LocalLaws
pub mod EncodedLaws
pub mod OctetLaws
pub mod Unique
