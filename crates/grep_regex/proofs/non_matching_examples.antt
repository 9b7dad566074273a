pub mod ExamplesLemmas
