pub mod internal
pub mod Limits
pub mod ListSet
pub mod Divisors
pub mod Fraction
pub mod Rank
pub mod LawStatements
