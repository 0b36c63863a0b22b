-- What only proofs and private contracts speak of.
pub mod Finds
pub mod Register
