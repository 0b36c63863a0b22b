pub mod Delivery
pub mod Given
pub mod Import
pub mod NamedRows
pub mod Source
