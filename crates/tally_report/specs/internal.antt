-- What only proofs speak of.
pub mod Awards
pub mod GoneByList
