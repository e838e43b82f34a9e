pub mod ServeEnds
pub mod Noting
pub mod ServedList
pub mod Runs
pub mod Services
pub mod Taken
