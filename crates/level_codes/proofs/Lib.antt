pub mod CodeLemmas
pub mod RowLemmas
pub mod ExplanationLemmas
pub mod SetLemmas
