pub mod Steps
pub mod Calls
pub mod Filter
pub mod Collect
pub mod Gather
pub mod Examples
