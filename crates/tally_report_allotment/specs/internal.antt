-- What only proofs speak of.
pub mod Allotments
pub mod Counting
