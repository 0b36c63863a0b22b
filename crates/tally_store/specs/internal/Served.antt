-- What a store knows of its constituencies, beside what it holds.
use Rattle.std.specs.Prelude.{List, ℕ, IsTrue}
use Rattle.sqlite.specs.State.{State as Seen, HasCleanDisk}
use Rattle.tally_setup.specs.Constituency.{Constituency}
use Rattle.tally_returns.specs.State.{State}
use Rattle.tally_machine_law.specs.LawfulState.{IsLawfulState}
use Rattle.tally_store_commands.specs.internal.Known.{AreKnown, Known}
use Rattle.tally_store_open.specs.Office.{HasState}
use Rattle.tally_store.specs.Store.{IsStored}

-- While the connection is open, what is known of constituencies is true of every lawful state whose
-- database it is.
abbrev pub IsKnownOf : List Constituency → Seen → Known → Type 0
IsKnownOf setup seen known =
    HasCleanDisk seen → IsTrue seen.is_open
    → (text : List ℕ) (s : State) → IsLawfulState setup s → HasState setup text s seen
    → AreKnown setup s.returns known

-- What a store keeps true of its connection, and of what it knows.
pub record IsServed (setup : List Constituency) (seen : Seen) (known : Known) : Type 0 where
  pub stored : IsStored setup seen
  pub true_is : IsKnownOf setup seen known
