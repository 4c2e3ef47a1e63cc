pub mod ContentsLemmas
pub mod LevelFileLemmas
pub mod ListingLemmas
pub mod OpeningLemmas
pub mod TurnLemmas
pub mod WordsLemmas
