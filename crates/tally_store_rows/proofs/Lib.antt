pub mod ReadAllLemmas
pub mod Utf8Lemmas
pub mod ItemLemmas
pub mod EntryLemmas
pub mod PastLemmas
pub mod ConLemmas
pub mod FoundLemmas
pub mod LawfulLemmas
