pub mod DemoFiring
pub mod DemoLength
pub mod FaultSearch
pub mod LumpExchange
pub mod SsectorSectors
pub mod ThingSectors
