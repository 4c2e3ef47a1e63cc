pub mod MarkLemmas
pub mod LawLemmas
pub mod KindLemmas
