pub mod Format
pub mod Laws
pub mod Later
pub mod Number
pub mod Parts
pub mod Reading
pub mod Records
pub mod Words
