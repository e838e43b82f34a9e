pub mod Fields
pub mod Grammar
pub mod Asked
pub mod Readings
