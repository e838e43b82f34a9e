pub mod Stops
pub mod Tables
pub mod WatchedWords
pub mod Kinds
pub mod Trials
pub mod Told
pub mod Words
