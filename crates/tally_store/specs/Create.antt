-- What the making and the opening of a store leave in the database, and how a connection is given
-- back where there is no store.
use Rattle.std.specs.Prelude.{◌≡◌, List, ℕ, IsTrue, Some, false}
use Rattle.sqlite.specs.State.{State as Seen, HasCleanDisk}
use Rattle.tally_setup.specs.Constituency.{Constituency}
use Rattle.tally_returns.specs.State.{opening}
use Rattle.tally_store_open.specs.Create.{IsAsBefore}
use Rattle.tally_store_open.specs.Office.{HasState}
use Rattle.tally_store_open.specs.Open.{IsOpened}
use Rattle.tally_store.specs.Content.{content_of}

-- The connection is open, and the database is that of the opening state, which is the content.
pub record HasOpeningTables (setup : List Constituency) (text : List ℕ) (seen : Seen) : Type 0 where
  pub is_open : IsTrue seen.is_open
  pub has : HasState setup text (opening setup) seen
  pub content : content_of setup seen ≡ Some (opening setup)

-- What an opening leaves: what was found is of one lawful state, which is the content, while the
-- connection is open.
pub record ShowsFound (setup : List Constituency) (old new : Seen) : Type 0 where
  pub opened : IsOpened setup old new
  pub content : IsTrue new.is_open → content_of setup new ≡ Some opened.state

-- A connection comes back in no transaction. Where it is open, its tables are as they were.
pub record IsGivenBack (old new : Seen) : Type 0 where
  pub autocommit : new.in_transaction ≡ false
  pub same : HasCleanDisk new → IsTrue new.is_open → IsAsBefore old new
