pub mod Reports
pub mod Asked
pub mod Rehearsed
