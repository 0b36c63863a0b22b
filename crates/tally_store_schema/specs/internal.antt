-- Words of private contracts, of what crates promise one another, and of proofs. No promise to a
-- program speaks of them.
pub mod Texts
pub mod Stays
pub mod StatementTexts
pub mod Numbered
pub mod Inside
