pub mod Allots
pub mod Lot
pub mod Troubles
pub mod Votes
pub mod internal
