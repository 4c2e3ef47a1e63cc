pub mod OwnLemmas
pub mod RowLemmas
mod WorkedCases
