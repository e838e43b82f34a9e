-- A scheme that is built keeps all rules.
pub mod Built
pub mod BuildSteps
pub mod KeptColumns
pub mod OneRootMore
pub mod GrownTrees
pub mod TreeMembers
pub mod MadeRows
pub mod RowSteps
pub mod RowColumns
pub mod JoinedPlaces
pub mod JoinedRanges
