pub mod Stores
pub mod WorldWords
pub mod Events
pub mod Desks
pub mod Crashes
pub mod Begun
pub mod Runs
