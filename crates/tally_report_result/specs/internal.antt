-- What only proofs speak of.
pub mod Found
