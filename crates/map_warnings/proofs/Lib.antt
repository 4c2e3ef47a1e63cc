pub mod ToldLemmas
pub mod RankLemmas
pub mod AloneLemmas
pub mod GameLemmas
pub mod NumberLemmas
pub mod ListedLemmas
pub mod ClosingLemmas
pub mod LinkLemmas
pub mod BalanceLemmas
pub mod TagLemmas
pub mod ApartLemmas
pub mod TwinLemmas
pub mod KeyLemmas
pub mod FacingLemmas
pub mod StartLemmas
pub mod VoidLemmas
mod WorkedCases
