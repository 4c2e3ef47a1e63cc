pub mod BlockSource
pub mod ExitStatus
pub mod Files
pub mod Program
pub mod Tied
