pub mod Searching
pub mod Members
pub mod Fits
pub mod BodyTexts
pub mod FormTexts
pub mod Handings
