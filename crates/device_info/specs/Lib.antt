pub mod Info
pub mod Lines
pub mod Present
pub mod Json
pub mod Changes
pub mod Commands
