-- What the laws of paths use.
pub mod WayLemmas
pub mod PathLemmas
pub mod OutcomeLemmas
pub mod CrashLemmas
