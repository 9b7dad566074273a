pub mod RemovedLemmas
pub mod Utf8Lemmas
