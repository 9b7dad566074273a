pub mod PrefilterLemmas
