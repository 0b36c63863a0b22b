-- Words of private contracts and of proofs. No promise to a caller speaks of them.
pub mod Ending
pub mod Making
pub mod Opening
pub mod Entries
pub mod Found
pub mod Seen
pub mod Tree
