pub mod AllotmentText
pub mod Question
pub mod Recount
pub mod RecountText
pub mod internal
