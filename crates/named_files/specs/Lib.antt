pub mod Clear
pub mod Preview
pub mod Examples
