pub mod internal
pub mod Connection
pub mod Memory
pub mod Message
pub mod LawStatements
