-- Words of private contracts and of proofs. No promise to a caller speaks of them.
pub mod ReturnRowsWithin
pub mod FixedNames
pub mod NextRow
pub mod Table
