-- What the paths of reserved names use.
pub mod ReservedPathLemmas
