-- What a keeper in memory holds.
use Rattle.std.specs.Prelude.{List}
use Rattle.tally_setup.specs.Constituency.{Constituency}
use Rattle.tally_returns.specs.State.{State}

-- a setup, and the state of its election
pub record Held : Type 0 where
  pub setup : List Constituency
  pub state : State
