pub mod Entries
pub mod EdgesOfRows
pub mod Networks
pub mod Ops
pub mod Applied
pub mod Laying
pub mod Placing
pub mod Making
pub mod Preparing
pub mod EdgeRows
mod InPlace
