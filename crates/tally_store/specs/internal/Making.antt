-- What a store is made of, and what its content is then. No public contract speaks of this.
use Rattle.std.specs.Prelude.{◌≡◌, List, IsTrue, Some}
use Rattle.sqlite.specs.State.{State as Seen, HasCleanDisk}
use Rattle.tally_setup.specs.Constituency.{Constituency}
use Rattle.tally_returns.specs.State.{State}
use Rattle.tally_machine_law.specs.LawfulState.{IsLawfulState}
use Rattle.tally_store_open.specs.Office.{IsOffice}
use Rattle.tally_store.specs.Content.{content_of}
use Rattle.tally_store_commands.specs.internal.Known.{AreKnown, Known}

-- While the connection is open, the content is each lawful state of which the database is.
abbrev pub ShowsState : List Constituency → Seen → Type 0
ShowsState setup seen =
    IsTrue seen.is_open → (s : State) → IsLawfulState setup s → IsOffice setup s seen
    → content_of setup seen ≡ Some s

-- As long as the disk has returned what was written, and has not failed, the database is that of a
-- lawful state, and what is known of constituencies is true of it.
abbrev pub IsOfKnownState : List Constituency → Seen → Known → Type 0
IsOfKnownState setup seen known =
    HasCleanDisk seen → IsTrue seen.is_open
    → (s : State) × IsLawfulState setup s × IsOffice setup s seen × AreKnown setup s.returns known
