-- What the proofs about taking an entry use.
pub mod TakeLemmas
pub mod WaitsLemmas
pub mod ProgressLemmas
