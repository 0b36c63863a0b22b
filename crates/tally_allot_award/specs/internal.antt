-- Words of private contracts and of proofs. No promise to a program speaks of them.
pub mod Pairs
pub mod Premises
pub mod Sums
pub mod Race
pub mod Terms
pub mod KeptPoll
pub mod ContestTerms
pub mod Quotas
pub mod Claims
pub mod WonSeat
pub mod NextPairs
pub mod Orders
pub mod Needs
