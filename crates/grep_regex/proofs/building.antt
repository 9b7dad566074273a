pub mod BuildingLemmas
pub mod LengthLemmas
