-- What the escaping of paths uses.
pub mod EscapeLemmas
