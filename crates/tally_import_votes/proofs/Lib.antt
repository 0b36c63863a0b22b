pub mod RowsLemmas
pub mod AnswerLemmas
pub mod NumberLemmas
