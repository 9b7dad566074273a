-- What the laws on disks as built use.
pub mod BuiltLemmas
