pub mod NewestAnswers
pub mod OldTickets
pub mod SaidPackets
pub mod Standing
pub mod Submitting
pub mod TablesPut
