-- What the applying of a plan uses.
pub mod CheckLemmas
pub mod FileLemmas
pub mod ApartLemmas
pub mod ExactLemmas
pub mod ApplyLemmas
