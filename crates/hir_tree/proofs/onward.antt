pub mod AheadLemmas
pub mod FollowsLemmas
pub mod OnwardLemmas
