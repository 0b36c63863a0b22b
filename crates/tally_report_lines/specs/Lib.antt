pub mod internal
pub mod Award
pub mod Columns
pub mod Quota
pub mod Short
pub mod Votes
pub mod Words
