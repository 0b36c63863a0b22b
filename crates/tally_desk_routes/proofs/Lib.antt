pub mod ItemLemmas
pub mod RowLemmas
