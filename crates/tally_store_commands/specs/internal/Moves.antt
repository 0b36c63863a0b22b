-- What writing a return that has moved does to the tables.
use Rattle.std.specs.Prelude.{◌≡◌, ℕ, Bool, true, false, List, [], ◌∷◌, Some, Result, OnOk}
use Rattle.std.specs.FinMap.{get, insert}
use Rattle.sqlite.specs.declared.error.Error.{Error}
use Rattle.sqlite.specs.State.{State as Seen, HasCleanDisk}
use Rattle.tally_store_schema.specs.Rows.{AreRowsOf}
use Rattle.tally_setup.specs.Constituency.{Constituency}
use Rattle.tally_setup.specs.Limits.{IsSetup}
use Rattle.tally_setup.specs.Setup.{station_with}
use Rattle.tally_setup.specs.declared.constituency.Station.{Station}
use Rattle.tally_returns.specs.Counts.{VoteCounts}
use Rattle.tally_returns.specs.Return.{StationReturn}
use Rattle.tally_returns.specs.State.{State, con_state}
use Rattle.tally_returns.specs.View.{counts_if_closed}
use Rattle.tally_machine_law.specs.LawfulState.{IsLawfulState}
use Rattle.tally_machine_law.specs.Step.{with_return, without_lot}
use Rattle.tally_store_schema.specs.Office.{IsInside}
use Rattle.tally_store_schema.specs.declared.table.KeyedTable.TheVariants.{Totals}
use Rattle.tally_store_rows.specs.Cells.{total_rows}
use Rattle.tally_store_rows.specs.TablesOfState.{AreTables}
use Rattle.tally_store_entries.specs.internal.Entries.{stored_in}
use Rattle.tally_store_entries.specs.internal.Constituencies.{ChangesOnly}
use Rattle.tally_store_commands.specs.internal.Requests.{IsInState}

-- These counts are closed now, or no longer.
abbrev pub CountsSo : Bool → VoteCounts → StationReturn → StationReturn → Type 0
CountsSo true counts before standing =
    (counts_if_closed (Some before) ≡ []) × (counts_if_closed (Some standing) ≡ counts ∷ [])
CountsSo false counts before standing =
    (counts_if_closed (Some before) ≡ counts ∷ []) × (counts_if_closed (Some standing) ≡ [])

-- What holds after a call that adds counts to the sums of a constituency or takes them out, where
-- the disk returned what was written. Where the sums were those of a lawful state, they are those
-- of the returns in which one at a station of the constituency has moved in this way.
abbrev pub MovesSums : Constituency → VoteCounts → Bool → Seen → Seen → Result Unit Error → Type 0
MovesSums con counts add old new result =
    HasCleanDisk new → IsInside old → (setup : List Constituency) (s : State) (station : List ℕ)
    (place : Station) (before standing : StationReturn)
    → IsSetup setup → station_with station setup ≡ Some (con, place) → IsLawfulState setup s →
    get s.returns station ≡ Some before → CountsSo add counts before standing
    → AreRowsOf (total_rows setup s.returns) s.cons (stored_in Totals old)
    → OnOk result (ChangesOnly Totals old new ×
    AreRowsOf (total_rows setup (insert s.returns station standing)) s.cons (stored_in Totals new))

-- What holds after a call that takes the counts of a return, if it is closed, out of the sums of
-- its constituency, where the disk returned what was written. Where the sums were those of a lawful
-- state, they are those of the returns in which another one, which is not closed, is recorded at
-- its station.
abbrev pub Uncounts : Constituency → StationReturn → Seen → Seen → Result Unit Error → Type 0
Uncounts con before old new result =
    HasCleanDisk new → IsInside old → (setup : List Constituency) (s : State) (station : List ℕ)
    (place : Station) (standing : StationReturn)
    → IsSetup setup → station_with station setup ≡ Some (con, place) → IsLawfulState setup s →
    get s.returns station ≡ Some before → counts_if_closed (Some standing) ≡ []
    → AreRowsOf (total_rows setup s.returns) s.cons (stored_in Totals old)
    → OnOk result (ChangesOnly Totals old new ×
    AreRowsOf (total_rows setup (insert s.returns station standing)) s.cons (stored_in Totals new))

-- the state with this return at a station
abbrev pub with_standing : List ℕ → StationReturn → State → State
with_standing station standing s = with_return s (Some station) standing

-- and without the lot of the constituency, which a query takes with it
abbrev pub with_queried : Constituency → List ℕ → StationReturn → State → State
with_queried con station standing s =
    with_return (without_lot s (Some con.code)) (Some station) standing

-- What holds after a call that writes a return in place of the one that was recorded, where the
-- disk returned what was written. Where the tables were those of a lawful state in which the
-- constituency was not certified, they are those of the next state.
abbrev pub PutsMoved : (State → State) → Constituency → List ℕ → StationReturn → Seen → Seen →
    Result Unit Error → Type 0
PutsMoved next con station before old new result =
    HasCleanDisk new → IsInside old →
    (setup : List Constituency) (place : Station) (text : List ℕ) (s : State)
    → IsSetup setup → station_with station setup ≡ Some (con, place) → IsLawfulState setup s →
    (con_state s con.code).certified ≡ false
    → get s.returns station ≡ Some before → AreTables setup text s old.now.trees
    → OnOk result (IsInState setup text (next s) new)
