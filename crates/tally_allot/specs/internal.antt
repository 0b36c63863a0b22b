-- Words of private contracts and of proofs. No promise to a caller speaks of them.
pub mod AwardTable
pub mod LeastSteps
pub mod OnTerms
pub mod ShortSteps
