pub mod Ends
pub mod ByteEnds
pub mod Gone
pub mod Looks
pub mod Published
pub mod Arrivals
pub mod ByteArrivals
