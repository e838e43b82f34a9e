pub mod Texts
pub mod NodeTexts
pub mod WordLemmas
pub mod Written
