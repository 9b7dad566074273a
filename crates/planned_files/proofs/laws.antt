-- What the laws use.
pub mod LawLemmas
