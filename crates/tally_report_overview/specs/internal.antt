-- What only proofs speak of.
pub mod Totals
pub mod Writing
