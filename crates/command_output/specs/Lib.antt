pub mod Lines
pub mod RouteLines
pub mod Faults
pub mod Printing
