pub mod internal
pub mod Served
pub mod Commands
pub mod Perform
