pub mod Turns
pub mod Ends
pub mod Counts
pub mod Insides
pub mod Outcomes
pub mod Watchers
pub mod Editors
