pub mod Drawn
pub mod Named
pub mod Tables
