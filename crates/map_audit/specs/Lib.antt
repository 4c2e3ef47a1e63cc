pub mod Findings
pub mod Refusal
pub mod Readings
pub mod Laws
