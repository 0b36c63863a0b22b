-- What the database of an office has of a certified constituency.
use Rattle.std.specs.Prelude.{◌≡◌, ℕ, true, List, map, filter, Some, IsPermutation}
use Rattle.sqlite.specs.State.{State as Seen}
use Rattle.tally_store_schema.specs.Rows.{has_key}
use Rattle.tally_setup.specs.Constituency.{Constituency}
use Rattle.tally_setup.specs.Setup.{constituency_with}
use Rattle.tally_returns.specs.State.{State, con_state}
use Rattle.tally_returns.specs.View.{View}
use Rattle.tally_machine_law.specs.LawfulState.{IsLawfulState}
use Rattle.tally_machine_law.specs.Outcome.{IsCertificate}
use Rattle.tally_machine_law.specs.Step.{IsView}
use Rattle.tally_store_schema.specs.declared.table.KeyedTable.TheVariants.{Seats}
use Rattle.tally_store_schema.specs.Office.{rows_in}
use Rattle.tally_store_rows.specs.Cells.{item_row, numbers_with_places}
use Rattle.tally_store_open.specs.Office.{IsOffice}
use Rattle.tally_store.specs.Content.{content_of}

-- The rows of `seats` of this constituency, in any order: one for each list, with the seats of a
-- certificate of its closed votes in this state.
pub record HasSeatRows (con : Constituency) (s : State) (seen : Seen) : Type 0 where
  pub view : View
  pub is_view : IsView con s view
  pub certificate : IsCertificate con view
  pub rows : IsPermutation (map (item_row con.code) (numbers_with_places 1 view.seats))
      (filter (has_key con.code) (rows_in Seats seen))

-- The database is that of the store's content, which is a lawful state, and has such rows of each
-- constituency that is certified in it.
pub record HasCertificates (setup : List Constituency) (seen : Seen) : Type 0 where
  pub state : State
  pub content : content_of setup seen ≡ Some state
  pub lawful : IsLawfulState setup state
  pub office : IsOffice setup state seen
  pub each : (code : List ℕ) (con : Constituency) → constituency_with code setup ≡ Some con
      → (con_state state con.code).certified ≡ true → HasSeatRows con state seen
