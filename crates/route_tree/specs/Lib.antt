pub mod Front
pub mod Growth
pub mod Members
pub mod Order
pub mod Places
pub mod Rose
pub mod Shape
pub mod Slots
