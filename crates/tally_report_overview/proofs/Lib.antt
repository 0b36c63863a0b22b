pub mod TotalLemmas
pub mod WritingLemmas
pub mod ViewLemmas
pub mod CountryLemmas
pub mod ProgressLemmas
