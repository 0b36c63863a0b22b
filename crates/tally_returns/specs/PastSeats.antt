-- The seats of a certificate that was reopened.
use Rattle.std.specs.Prelude.{ℕ, List}

-- the edition at which it was in force, and the seats of each list, in the setup's order
pub record PastSeats : Type 0 where
  pub edition : ℕ
  pub seats : List ℕ
