pub mod EncoderLaws
pub mod ScramblerLaws
pub mod TrainLaws
pub mod CodeLaws
pub mod OctetLaws
pub mod FrameLaws
