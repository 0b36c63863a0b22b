pub mod internal
pub mod Reported
pub mod Place
pub mod Trouble
pub mod Troubles
pub mod SetupFile
pub mod Written
