-- What the proofs about the changes of a disk in memory use.
pub mod ToldLemmas
pub mod TestLemmas
pub mod OwnDeviceLemmas
pub mod ChangeLemmas
pub mod DeviceKeptLemmas
pub mod TellingLemmas
pub mod CrashLemmas
