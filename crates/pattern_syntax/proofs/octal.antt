pub mod OctalLemmas
