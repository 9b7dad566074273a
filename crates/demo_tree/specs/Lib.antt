pub mod Demo
pub mod Building
pub mod FaultlessDisk
pub mod Examples
