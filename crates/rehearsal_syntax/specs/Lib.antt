pub mod Grammar
pub mod Said
pub mod Reading
