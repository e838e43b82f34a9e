pub mod Grammar
pub mod Commands
