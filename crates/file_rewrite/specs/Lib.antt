pub mod Paths
pub mod Faults
pub mod Reading
pub mod Rewritten
pub mod OneFile
pub mod Putting
pub mod Examples
