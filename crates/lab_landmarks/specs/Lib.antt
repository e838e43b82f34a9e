pub mod Sizes
pub mod Tables
pub mod Reports
pub mod Lines
pub mod Answers
pub mod Asked
pub mod Words
