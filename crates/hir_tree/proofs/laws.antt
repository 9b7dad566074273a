pub mod CharacterLemmas
pub mod MemberLemmas
