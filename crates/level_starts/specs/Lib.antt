pub mod Starts
pub mod Format
pub mod Holders
pub mod Order
pub mod LevelFile
pub mod Laws
