-- What a journalled sweep uses.
pub mod WorkLemmas
pub mod CountLemmas
pub mod RefusedLemmas
pub mod SweepLemmas
