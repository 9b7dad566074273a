pub mod Command
pub mod Number
pub mod Order
pub mod Refusal
pub mod OrderRead
pub mod Plain
pub mod Examples
