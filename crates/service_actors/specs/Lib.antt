pub mod Settled
pub mod Edited
pub mod EditedAsAsked
pub mod AtRest
pub mod Forwarded
pub mod Source
pub mod Stands
