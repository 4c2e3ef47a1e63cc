pub mod ProductLemmas
pub mod SignLemmas
pub mod AlongLemmas
pub mod SpanLemmas
pub mod WholeLemmas
pub mod CutLemmas
pub mod PointCountLemmas
