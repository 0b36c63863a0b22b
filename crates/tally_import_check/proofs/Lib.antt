pub mod NamedLemmas
pub mod FoundLemmas
pub mod TotalsLemmas
pub mod ProgressLemmas
pub mod RoundsLemmas
pub mod AnswerLemmas
pub mod StandingLemmas
