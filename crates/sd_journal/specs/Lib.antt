pub mod Errors
pub mod Printing
pub mod Work
pub mod Refused
pub mod Sweep
pub mod Recover
pub mod Run
