pub mod RequiredLemmas
