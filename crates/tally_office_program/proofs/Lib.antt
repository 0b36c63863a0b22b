pub mod ServerLemmas
pub mod LineLemmas
