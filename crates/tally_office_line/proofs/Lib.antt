pub mod AppLemmas
pub mod LeafLemmas
pub mod CommandLemmas
pub mod NumberLemmas
