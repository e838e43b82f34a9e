pub mod Durable
pub mod Lists
pub mod Posted
pub mod Laws
