pub mod Cells
pub mod Reading
pub mod Views
pub mod TablesOfState
pub mod internal
