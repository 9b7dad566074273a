pub mod SpotsLemmas
