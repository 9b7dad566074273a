-- What the laws of rewriting use.
pub mod KeepingLemmas
