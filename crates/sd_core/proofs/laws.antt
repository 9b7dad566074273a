-- What the laws use.
pub mod CrashLemmas
pub mod PlanLemmas
