-- Words of private contracts and of proofs. No promise to a caller speaks of them.
pub mod Found
pub mod Room
pub mod Withheld
