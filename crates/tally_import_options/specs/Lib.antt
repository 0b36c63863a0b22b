pub mod Wanted
pub mod WantedRecount
