pub mod CodeLemmas
pub mod TextLemmas
pub mod CodesLemmas
pub mod SetupLemmas
pub mod NamedLemmas
