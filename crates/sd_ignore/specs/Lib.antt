pub mod Reading
pub mod Fitting
pub mod Says
pub mod Ignored
pub mod Laws
pub mod Examples
