pub mod OneByte
pub mod Pairs
