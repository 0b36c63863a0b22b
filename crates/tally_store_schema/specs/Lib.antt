pub mod internal
pub mod Rows
pub mod Values
pub mod Tables
pub mod Made
pub mod Cells
pub mod Office
