pub mod Moved
pub mod Refused
