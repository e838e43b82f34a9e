pub mod Fronts
pub mod Keeping
pub mod Placing
pub mod Asking
pub mod Numbers
