pub mod AsAsked
pub mod Resting
pub mod PacketsOnWay
pub mod NewestLooks
