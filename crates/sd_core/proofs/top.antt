-- What the proof about the program from its words to its status uses.
pub mod AskLemmas
pub mod CarryLemmas
pub mod RunLemmas
pub mod TellLemmas
