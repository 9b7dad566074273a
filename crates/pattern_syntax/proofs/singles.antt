pub mod SingleLemmas
