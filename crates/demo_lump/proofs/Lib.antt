pub mod CommandLemmas
pub mod DemoLemmas
pub mod FillingLemmas
pub mod LawLemmas
pub mod PieceLemmas
pub mod ReadingLemmas
pub mod ReadsLemmas
pub mod WritingLemmas
