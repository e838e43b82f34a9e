pub mod Folds
pub mod Texts
