pub mod Line
pub mod internal
