mod RowsLemmas
mod SureLemmas
