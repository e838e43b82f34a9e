mod Seating
pub mod Posting
