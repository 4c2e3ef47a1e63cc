pub mod StartLemmas
pub mod FormatLemmas
pub mod HolderLemmas
mod WorkedCases
