pub mod Planned
pub mod Checked
pub mod Applied
pub mod Faults
pub mod Examples
