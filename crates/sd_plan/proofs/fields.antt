-- What the reading of fields uses.
pub mod CutLemmas
pub mod FieldLemmas
pub mod FoundLemmas
