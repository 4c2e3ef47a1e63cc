pub mod ByteLemmas
pub mod DoomHeaderLemmas
mod TextLemmas
mod HeadLemmas
mod ToldLemmas
mod MeaningLemmas
mod CommandLemmas
mod ComparedLemmas
mod LawLemmas
mod SameLemmas
mod WorkedCases
