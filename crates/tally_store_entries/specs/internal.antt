-- Words of private contracts, of what crates promise one another, and of proofs. No promise to a
-- program speaks of them.
pub mod Found
pub mod Sums
pub mod Written
pub mod Entries
pub mod Constituencies
pub mod Statuses
