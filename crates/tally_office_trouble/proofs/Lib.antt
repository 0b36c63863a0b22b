pub mod ReportedLemmas
pub mod PutLemmas
pub mod JudgeLemmas
pub mod NamedLemmas
