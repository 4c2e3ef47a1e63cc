mod DrawQuestionLemmas
mod LensLemmas
mod LinedefsLemmas
pub mod PartsLemmas
pub mod LookLemmas
