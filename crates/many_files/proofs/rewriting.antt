-- What the rewriting of files uses.
pub mod MemberLemmas
pub mod CutLemmas
pub mod WayLemmas
pub mod FileLemmas
pub mod TurnLemmas
pub mod TurnsLemmas
pub mod JobLemmas
pub mod KeepLemmas
pub mod TakenLemmas
pub mod CauseLemmas
pub mod CrowdLemmas
pub mod ChainLemmas
pub mod MemoryLemmas
pub mod SweptLemmas
pub mod EndLemmas
pub mod ListedLemmas
