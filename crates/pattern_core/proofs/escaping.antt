pub mod ParsedLemmas
pub mod RunLemmas
