pub mod CountLemmas
pub mod NumberLemmas
pub mod OneRepeated
pub mod RepetitionLemmas
