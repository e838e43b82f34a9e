pub mod Search
pub mod Table
pub mod Waiting
pub mod Arrivals
pub mod Reach
pub mod Workspace
pub mod Nearest
pub mod Laws
