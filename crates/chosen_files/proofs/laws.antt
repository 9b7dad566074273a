-- What the laws of what a walk gives, and of what is chosen of it, use.
pub mod BelowLemmas
pub mod ChosenLemmas
pub mod ContentLemmas
pub mod EntryLemmas
pub mod InOrderLemmas
pub mod KeptLemmas
pub mod ListedLemmas
pub mod OutLemmas
pub mod PickLemmas
pub mod PlaceLemmas
pub mod ReachedLemmas
pub mod RootLemmas
pub mod SeenLemmas
pub mod WalkedLemmas
