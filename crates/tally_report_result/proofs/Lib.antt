pub mod ArrayLemmas
pub mod NumberLemmas
pub mod PartLemmas
pub mod ResultLemmas
