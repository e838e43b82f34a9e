-- What holds of a packet on its way.
pub mod CarriedTrails
pub mod WayLaws
pub mod Generations
pub mod RowLemmas
