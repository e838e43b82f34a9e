pub mod TicketLemmas
