pub mod CaptureWalkLemmas
pub mod CapturesLemmas
pub mod NearestLemmas
