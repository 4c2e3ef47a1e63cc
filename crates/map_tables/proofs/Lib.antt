pub mod BitLemmas
pub mod WordLemmas
pub mod ListLemmas
pub mod FloorLemmas
pub mod TableLemmas
