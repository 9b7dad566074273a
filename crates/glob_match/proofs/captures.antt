pub mod BytesLemmas
pub mod CaptureRangesLemmas
