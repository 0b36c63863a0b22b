pub mod ImportLemmas
pub mod RowsLemmas
