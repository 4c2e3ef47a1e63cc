pub mod BoundLemmas
pub mod LawLemmas
pub mod LineLemmas
pub mod PartLemmas
pub mod WiderLemmas
