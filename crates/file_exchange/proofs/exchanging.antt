-- What the exchange's steps use.
pub mod PlaceLemmas
pub mod CauseLemmas
pub mod CreatingLemmas
pub mod FillingLemmas
pub mod ExchangeLemmas
pub mod PuttingLemmas
