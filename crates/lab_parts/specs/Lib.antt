pub mod Words
pub mod Grammar
pub mod Files
pub mod Places
pub mod Devices
pub mod States
