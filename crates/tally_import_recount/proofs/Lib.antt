pub mod TableLemmas
pub mod TakenLemmas
pub mod RowsLemmas
pub mod LawfulLemmas
pub mod FoundLemmas
