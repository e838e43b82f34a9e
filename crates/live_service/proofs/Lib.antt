pub mod Noting
pub mod AllTaken
pub mod Backs
pub mod Ended
pub mod OneListed
pub mod Actors
pub mod Sending
pub mod Telling
