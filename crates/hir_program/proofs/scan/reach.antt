pub mod DeadLemmas
pub mod ReachLemmas
