-- Words of private contracts and of proofs. No promise to a caller speaks of them.
pub mod Judged
pub mod Put
