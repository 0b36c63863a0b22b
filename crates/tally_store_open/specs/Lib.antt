pub mod internal
pub mod Calls
pub mod Office
pub mod Create
pub mod Open
pub mod Crash
pub mod OfficeRows
pub mod Numbers
