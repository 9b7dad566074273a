-- What the law of existence uses.
pub mod ReachLemmas
pub mod EnteredLemmas
pub mod ExistenceLemmas
