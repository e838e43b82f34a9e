pub mod Basics
pub mod Serving
pub mod OnTheWay
pub mod LocalForms
