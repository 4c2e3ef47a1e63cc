pub mod RecordLemmas
pub mod PartLemmas
pub mod ReadingLemmas
pub mod FirstLemmas
mod WorkedCases
