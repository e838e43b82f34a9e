pub mod InTurns
pub mod Refusals
pub mod Takings
pub mod SettledMarks
