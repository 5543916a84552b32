pub mod ModeLaws
pub mod PduLaws
pub mod RefusalLaws
pub mod KindLaws
pub mod TestLaws
pub mod SizeLaws
pub mod DescriptionLaws
pub mod RefusalNumbers
