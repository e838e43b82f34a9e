pub mod Disk
pub mod FileWords
pub mod Image
pub mod Memory
pub mod Places
pub mod Plans
