pub mod CoverCallLemmas
