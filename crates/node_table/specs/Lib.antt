pub mod Columns
pub mod RowLists
pub mod Building
