pub mod Ends
pub mod Line
pub mod Recounted
pub mod Streams
