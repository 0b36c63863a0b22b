pub mod ServeLemmas
pub mod DeskLemmas
