pub mod BaseLemmas
mod DemosLemmas
pub mod CutLemmas
pub mod JobLemmas
pub mod PathLemmas
pub mod TellLemmas
mod FileLemmas
