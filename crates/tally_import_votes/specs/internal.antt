-- What only proofs and private contracts speak of.
pub mod Reading
