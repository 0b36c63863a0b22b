pub mod internal
pub mod Answer
pub mod Outcome
pub mod Words
pub mod Import
pub mod Shown
