pub mod CommandText
pub mod Listing
pub mod Differences
pub mod Laws
