pub mod Answer
pub mod Openings
pub mod Edits
pub mod Seats
pub mod Moves
