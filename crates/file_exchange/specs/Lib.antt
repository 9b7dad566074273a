pub mod Reserved
pub mod Causes
pub mod Exchange
pub mod Temporary
pub mod Crash
