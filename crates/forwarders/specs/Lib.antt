pub mod Answers
pub mod ByteAnswers
pub mod Forwarders
pub mod Laws
pub mod Arrivals
pub mod ByteArrivals
