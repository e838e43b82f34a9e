pub mod Tickets
pub mod Parts
pub mod Steps
pub mod Going
