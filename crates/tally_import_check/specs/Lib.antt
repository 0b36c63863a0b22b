pub mod internal
pub mod Check
