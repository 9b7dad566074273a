-- What a sweep under rules uses.
pub mod KeptLemmas
