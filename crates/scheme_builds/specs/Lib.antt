pub mod Words
pub mod Schemes
pub mod Ranges
pub mod Workers
pub mod Queries
pub mod Carrying
