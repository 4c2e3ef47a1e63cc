mod CutLemmas
pub mod CheckLemmas
pub mod CheckedLemmas
pub mod CodeLemmas
pub mod CountLemmas
pub mod FoundLemmas
pub mod IndexLemmas
pub mod LawLemmas
pub mod LineLemmas
pub mod ObjectLemmas
pub mod ObjectReadLemmas
pub mod OrderLemmas
pub mod ReportCountLemmas
pub mod ReportLemmas
pub mod ShownLemmas
pub mod SurveyLemmas
mod WorkedCases
pub mod UnlookedLemmas
pub mod UnreadLemmas
pub mod WarnedLemmas
pub mod ReferenceLemmas
