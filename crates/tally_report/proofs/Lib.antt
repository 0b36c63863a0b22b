pub mod HolderLemmas
pub mod QuotientLemmas
pub mod AwardLemmas
pub mod GoneLemmas
pub mod LineLemmas
pub mod TallyLemmas
pub mod CodeLemmas
