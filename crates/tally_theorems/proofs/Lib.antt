pub mod SeenLemmas
pub mod RouteLemmas
pub mod MessageLemmas
pub mod AgainLemmas
pub mod BytesLemmas
pub mod EnteredTwiceLemmas
pub mod TrialLemmas
pub mod ReadBackLemmas
