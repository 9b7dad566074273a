pub mod NumbersLemmas
