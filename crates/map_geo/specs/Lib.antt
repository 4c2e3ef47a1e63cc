pub mod Point
pub mod Partition
pub mod Side
pub mod Rect
pub mod Laws
