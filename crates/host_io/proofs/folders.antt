-- What the proofs about the answers of folders use.
pub mod AnswerLemmas
