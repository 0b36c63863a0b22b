-- Words of private contracts and of proofs. No promise to a caller speaks of them.
pub mod Next
pub mod RowsAnswer
pub mod Gives
pub mod Named
