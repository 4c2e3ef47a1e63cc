pub mod FromSlice
pub mod ToVec
