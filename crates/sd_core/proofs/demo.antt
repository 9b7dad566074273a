-- What a sweep of a demo uses.
pub mod StandingLemmas
pub mod BelowLemmas
pub mod RoomLemmas
pub mod DemoEndLemmas
