-- What the proofs about a step use.
pub mod StepLemmas
pub mod MeetLemmas
pub mod TakeStepLemmas
pub mod CauseLemmas
pub mod ListedLemmas
pub mod TurnLemmas
