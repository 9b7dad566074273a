-- What the laws of plans use.
pub mod Utf8Lemmas
