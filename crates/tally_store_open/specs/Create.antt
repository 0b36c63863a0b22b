-- The making of an office's tables in a database: where it may be done, why it is refused, and what
-- it leaves then.
use Rattle.std.specs.Prelude.{◌≡◌, ◌≢◌, List, ℕ, IsOk, IsTrue, false}
use Rattle.sqlite.specs.State.{State as Seen}
use Rattle.sqlite_schema.specs.declared.schema.Schema.{Schema}
use Rattle.tally_returns.specs.State.{opening}
use Rattle.tally_setup.specs.Constituency.{Constituency}
use Rattle.tally_rules.specs.Fault.{IsFaultIn}
use Rattle.tally_rules.specs.Reading.{setup_of_text}
use Rattle.tally_rules.specs.declared.fault.SetupFault.TheVariants as setup_fault
use Rattle.tally_store_schema.specs.Made.{takes_office_name}
use Rattle.tally_store_schema.specs.Tables.{schema_with}
use Rattle.tally_keeper.specs.declared.fault.CreateFault.{CreateFault}
use Rattle.tally_keeper.specs.declared.fault.CreateFault.TheVariants.{Setup, NotEmpty, Memory}
use Rattle.tally_keeper.specs.declared.fault.CreateFault.TheVariants.{Store}
use Rattle.tally_store_open.specs.Office.{HasState}

-- no table, no index and no view
abbrev pub no_schema : Schema
no_schema = schema_with 0

-- Why no office was made of a text in a database of this schema: the first fault of the text; a
-- name of the office's tables that is taken; or, of a text that is a setup and with no name taken,
-- the database. Out of memory may be the answer at any place.
abbrev pub IsCreateFault : List ℕ → Schema → CreateFault → Type 0
IsCreateFault text schema (Setup fault) =
    IsFaultIn (setup_of_text text) fault × (fault ≢ setup_fault.Memory)
IsCreateFault text schema NotEmpty = IsOk (setup_of_text text) × IsTrue (takes_office_name schema)
IsCreateFault text schema Memory = Unit {0}
IsCreateFault text schema Store = IsOk (setup_of_text text) × (takes_office_name schema ≡ false)

-- What is there, and what was committed, are as they were.
pub record IsAsBefore (old new : Seen) : Type 0 where
  pub now : new.now ≡ old.now
  pub committed : new.committed ≡ old.committed

-- What the making of an office leaves: the database is that of the opening state.
abbrev pub MakesOffice : List ℕ → List Constituency → Seen → Seen → Type 0
MakesOffice text setup old new = HasState setup text (opening setup) new
