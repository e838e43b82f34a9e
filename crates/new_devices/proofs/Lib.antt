pub mod Blanks
pub mod Ends
pub mod Sending
