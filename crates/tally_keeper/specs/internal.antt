-- Words of private contracts and of proofs. No promise to a caller speaks of them.
pub mod KeptCode
pub mod Rows
pub mod Sums
pub mod Held
