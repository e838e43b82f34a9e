pub mod Layout
pub mod Refusals
pub mod Spelling
pub mod Laws
pub mod Digits
pub mod Texts
