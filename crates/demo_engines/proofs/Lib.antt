mod AssemblyLemmas
pub mod DemosLemmas
mod FitLemmas
mod HeaderLineLemmas
mod LawLemmas
mod LineLemmas
mod ListedHeaderLemmas
mod ListingLemmas
mod NumberLemmas
mod ObjectLemmas
mod ObjectReadLemmas
mod DoomLineLemmas
mod RunLemmas
mod TakingLemmas
mod TurnLemmas
