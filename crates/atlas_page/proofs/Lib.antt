pub mod ItemLemmas
pub mod TotalLemmas
pub mod LevelLemmas
pub mod TextLemmas
mod WorkedCases
