pub mod Tickets
pub mod Requests
pub mod Laws
