-- What the building of a demo's tree uses.
pub mod DigitLemmas
pub mod NameLemmas
pub mod ContentLemmas
pub mod BuildLemmas
