pub mod GroupsLemmas
