pub mod internal
pub mod Serving
pub mod Respond
pub mod Requests
pub mod Reports
