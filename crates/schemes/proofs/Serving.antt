-- A scheme that keeps all rules serves its network.
pub mod Exact
pub mod Clusters
pub mod TripLengths
pub mod TripsInTrees
pub mod StepsAsMoves
pub mod Moves
pub mod CheckedLaw
pub mod SchemeLaws
pub mod EntryCounts
