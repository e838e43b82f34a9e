pub mod Texts
pub mod Asking
