-- What the proofs of the laws use, and those of upper crates.
pub mod PhaseLemmas
pub mod WorkLemmas
pub mod TextLemmas
pub mod DigestLemmas
pub mod StepLemmas
pub mod ImageLemmas
pub mod RecoverLemmas
pub mod AfterLemmas
pub mod RootLemmas
pub mod SettledLemmas
pub mod LineLemmas
-- What the worked examples use.
pub mod ExampleLemmas
pub mod WrongLemmas
