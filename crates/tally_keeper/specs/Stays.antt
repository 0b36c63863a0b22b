-- What stays true of a keeper over any call.
use Rattle.std.specs.Prelude.{◌≡◌, ◌⊎◌, List, Option, None}
use Rattle.tally_setup.specs.Constituency.{Constituency}
use Rattle.tally_returns.specs.State.{State}

-- It has the same setup. It was trusted before if it is trusted after. It is shut, which is to have
-- no state, only where it was so before or has a database that may fail. It gains no database.
pub record StaysBy {K : Type 0} (constituencies : K → List Constituency)
    (content : K → Option State)
    (IsTrusted HasDatabase : K → Type 0) (old new : K) : Type 0 where
  pub setup : constituencies new ≡ constituencies old
  pub trusted : IsTrusted new → IsTrusted old
  pub shut : content new ≡ None → (content old ≡ None) ⊎ HasDatabase old
  pub database : HasDatabase new → HasDatabase old
