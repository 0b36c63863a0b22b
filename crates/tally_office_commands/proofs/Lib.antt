pub mod ResultLemmas
pub mod ShowLemmas
pub mod ImportLemmas
pub mod WrittenLemmas
pub mod DoneLemmas
pub mod OtherLemmas
pub mod MakeLemmas
pub mod FailedLemmas
