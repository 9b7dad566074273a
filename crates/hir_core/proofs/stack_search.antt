pub mod StackLemmas
