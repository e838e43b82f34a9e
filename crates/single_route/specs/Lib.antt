pub mod LandmarkTrees
pub mod LandmarkTrails
pub mod TrailLaws
pub mod ListedLines
pub mod FoundTrees
pub mod Ways
pub mod Answers
