pub mod ProgramVisitsLemmas
pub mod SearcherLemmas
pub mod SoundRunsLemmas
