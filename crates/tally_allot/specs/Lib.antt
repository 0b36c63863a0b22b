pub mod AllotFault
pub mod Next
pub mod QuotaRows
pub mod Awards
pub mod LeastSeats
pub mod VotesShort
pub mod internal
