pub mod Words
pub mod Entries
pub mod Rows
pub mod Climbs
pub mod Rules
pub mod Trees
pub mod Faults
pub mod Found
