pub mod ColumnLemmas
pub mod AwardLemmas
