pub mod StampsLemmas
