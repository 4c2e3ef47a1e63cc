pub mod SliceSink
pub mod SliceSource
