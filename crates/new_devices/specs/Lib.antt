pub mod Events
pub mod Backups
