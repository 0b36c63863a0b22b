-- Words of private contracts, of what crates promise one another, and of proofs. No promise to a
-- program speaks of them.
pub mod Lodging
pub mod Seen
pub mod Found
pub mod Changes
pub mod Moves
pub mod Sums
pub mod Counting
pub mod Answering
pub mod Inside
pub mod Known
pub mod Requests
pub mod Shown
pub mod Stations
