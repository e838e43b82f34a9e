pub mod Keeping
pub mod NodeTexts
