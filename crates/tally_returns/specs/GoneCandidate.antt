-- A candidate who is gone.
use Rattle.std.specs.Prelude.{ℕ, List}

-- the place of the list, the candidate's own place in it, both from 1, and the note
pub record GoneCandidate : Type 0 where
  pub list : ℕ
  pub place : ℕ
  pub note : List ℕ
