pub mod FindingLemmas
pub mod IndexTextLemmas
pub mod LevelLemmas
pub mod LinkedLemmas
pub mod OneListLemmas
pub mod OpeningLemmas
pub mod BoundLemmas
pub mod BareLemmas
