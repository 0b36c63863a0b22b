pub mod Counted
pub mod Recounts
pub mod Troubles
pub mod internal
