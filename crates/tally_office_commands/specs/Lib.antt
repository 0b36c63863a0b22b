pub mod internal
pub mod Results
pub mod Show
pub mod Done
pub mod Failed
pub mod Imported
pub mod Made
pub mod Offices
