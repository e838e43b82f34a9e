-- The rules on records and labels, and their forms over a node and its neighbours.
pub mod TreeOfTables
pub mod LocalChecks
pub mod LocalLabels
pub mod LocalRecords
pub mod TreeRecords
pub mod ChildRows
