pub mod GatheredLines
