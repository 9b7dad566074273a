-- What the proofs of the laws use.
pub mod PlainWalk
pub mod PlainRest
pub mod PlainTable
