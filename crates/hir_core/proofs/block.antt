mod LevelLemmas
mod BlockLemmas
mod MarkLemmas
mod BlockEndLemmas
pub mod BlockTurnLemmas
mod FollowLemmas
mod SizeLemmas
pub mod LoopLemmas
pub mod ThreadsLemmas
pub mod TryLemmas
