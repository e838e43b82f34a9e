pub mod Lists
pub mod Networks
pub mod Loads
pub mod Commands
