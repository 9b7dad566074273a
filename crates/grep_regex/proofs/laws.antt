pub mod ExactLemmas
pub mod FilterLemmas
pub mod NoMatchLemmas
pub mod OptionsLemmas
pub mod StrippingLemmas
pub mod TreeLemmas
pub mod WithoutLemmas
