pub mod CountLemmas
pub mod MarkLemmas
pub mod PictureLemmas
pub mod WarnedLemmas
pub mod ListingLemmas
pub mod DrawingLemmas
mod WorkedCases
