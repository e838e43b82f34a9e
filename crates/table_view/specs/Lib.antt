pub mod Parts
pub mod Listing
pub mod Answers
pub mod Files
