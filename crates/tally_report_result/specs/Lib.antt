pub mod internal
pub mod Members
pub mod Parts
pub mod Result
pub mod Values
pub mod Words
