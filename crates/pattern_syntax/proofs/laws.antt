pub mod CharacterLemmas
pub mod OneAtomLemmas
pub mod OneClassLemmas
pub mod OneReadingLemmas
pub mod OneTokenLemmas
pub mod StartsLemmas
