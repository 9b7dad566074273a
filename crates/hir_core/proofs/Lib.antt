mod FoundLemmas
mod PruningLemmas
