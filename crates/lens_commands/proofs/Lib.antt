mod CompareLemmas
mod DrawLemmas
mod FileLemmas
mod FormatLemmas
pub mod AtlasLemmas
pub mod FolderLemmas
pub mod GatherLemmas
pub mod LinesLemmas
pub mod PictureLemmas
pub mod ToldLemmas
pub mod UntilLemmas
