-- What each command writes, and what its run does.
pub mod Lumps
pub mod Levels
pub mod Points
pub mod Show
pub mod Extract
pub mod Sight
pub mod Blocks
pub mod Audit
pub mod Census
pub mod Demo
pub mod Lmp
