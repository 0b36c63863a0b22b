pub mod HeaderLemmas
pub mod NumberLemmas
pub mod ConstituencyLemmas
pub mod ReturnRowsLemmas
pub mod TableLemmas
