pub mod Suspects
pub mod Looking
