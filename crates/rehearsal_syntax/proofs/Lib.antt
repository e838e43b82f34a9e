pub mod Orders
pub mod SaidLemmas
