pub mod HolderLemmas
pub mod DrawLemmas
