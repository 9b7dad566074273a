-- What the preview uses.
pub mod PreviewLemmas
pub mod WhyLemmas
