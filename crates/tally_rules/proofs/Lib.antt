pub mod ReadLemmas
pub mod StepLemmas
pub mod PlaceLemmas
pub mod ProfileLemmas
