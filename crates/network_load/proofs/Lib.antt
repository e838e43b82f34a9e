pub mod Numbers
pub mod Added
pub mod Counting
pub mod Images
pub mod Beginnings
