pub mod Submits
pub mod Tables
pub mod Newest
