pub mod Between
pub mod Phases
pub mod Recovery
pub mod Examples
