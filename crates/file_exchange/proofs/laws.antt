-- What the laws of exchanges use.
pub mod ImageLemmas
pub mod TurnLemmas
