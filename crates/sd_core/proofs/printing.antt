-- What the proofs about printing use.
pub mod ReportLemmas
