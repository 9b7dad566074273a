-- What the proof about the reading of globs uses.
pub mod GlobsLemmas
