pub mod WordLemmas
pub mod RangeLemmas
pub mod Addresses
