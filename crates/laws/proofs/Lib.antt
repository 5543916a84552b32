pub mod ListLaws
pub mod Tables
pub mod LadderLaws
pub mod SumLaws
pub mod ScatterLaws
pub mod AnswerLaws
pub mod PackingLaws
pub mod SignedLaws
