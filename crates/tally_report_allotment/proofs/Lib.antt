pub mod CountedLemmas
pub mod DecisiveLemmas
pub mod FitsLemmas
