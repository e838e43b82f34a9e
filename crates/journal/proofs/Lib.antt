mod AreaLemmas
mod Groups
mod JournalLemmas
pub mod Lists
mod Scans
