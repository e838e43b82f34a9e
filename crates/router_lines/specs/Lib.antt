pub mod Shelves
pub mod Lines
pub mod Answers
