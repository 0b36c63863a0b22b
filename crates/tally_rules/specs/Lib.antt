pub mod internal
pub mod Fault
pub mod Place
pub mod Reading
