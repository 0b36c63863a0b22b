pub mod CountsLemmas
pub mod DecideLemmas
pub mod StateLemmas
pub mod ClosedLemmas
