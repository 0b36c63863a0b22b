pub mod ByTrial
pub mod ExampleLemmas
