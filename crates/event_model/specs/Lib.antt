pub mod Trips
pub mod Machines
pub mod Answers
pub mod Runs
