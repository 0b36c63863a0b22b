-- Words of private contracts and of proofs. No promise to a caller speaks of them.
pub mod Reading
pub mod Start
pub mod Lines
pub mod Fields
