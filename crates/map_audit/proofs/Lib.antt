pub mod PartLemmas
pub mod WideLemmas
pub mod SectorLemmas
pub mod FileLemmas
pub mod ReadingLemmas
pub mod LawLemmas
pub mod ReportLemmas
