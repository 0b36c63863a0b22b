-- Words of private contracts. No promise to a caller speaks of them.
pub mod Parts
