-- Words of private contracts and of proofs. No promise to a caller speaks of them.
pub mod Totals
pub mod Progress
pub mod Rounds
