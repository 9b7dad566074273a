pub mod CaseLemmas
pub mod MemberLemmas
pub mod NameLemmas
pub mod PairLemmas
