pub mod RoomLemmas
pub mod EventLemmas
pub mod LifeLemmas
