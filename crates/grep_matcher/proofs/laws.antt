pub mod CoverLemmas
pub mod ReplacedLemmas
