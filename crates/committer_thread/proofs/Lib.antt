pub mod Settling
pub mod Pace
pub mod OnWay
