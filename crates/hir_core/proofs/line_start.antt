pub mod LineStartLemmas
