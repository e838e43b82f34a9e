-- Lists, options, ports and walks, as the proofs use them.
pub mod Options
pub mod Lists
pub mod Places
pub mod Searches
pub mod PortLemmas
pub mod Walks
pub mod PackedEntries
