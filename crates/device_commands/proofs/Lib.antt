pub mod OneRound
pub mod OneRequest
pub mod OpenFaults
pub mod Found
