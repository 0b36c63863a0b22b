pub mod LineLemmas
pub mod RecountLemmas
