pub mod Reject
pub mod Words
pub mod BlockMap
pub mod TableFaults
pub mod Laws
