pub mod ByteRuns
pub mod Entry
pub mod Examples
pub mod Laid
pub mod Loops
pub mod Masks
pub mod Program
pub mod Scan
