pub mod MaskLemmas
pub mod MoveLemmas
