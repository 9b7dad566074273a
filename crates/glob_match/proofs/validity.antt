pub mod ValidityLemmas
