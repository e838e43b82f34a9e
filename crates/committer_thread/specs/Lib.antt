pub mod Config
pub mod Causes
pub mod Kept
pub mod Pace
pub mod Tables
pub mod Beside
