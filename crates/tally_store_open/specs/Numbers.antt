-- How many stations a constituency has, and how many of their returns are in each status.
use Rattle.std.specs.Prelude.{◌≡◌, ℕ, List, [], Some}
use Rattle.std.specs.BTreeMap.{BTreeMap}
use Rattle.std.specs.FinMap.{FinMap, from_entries, get}
use Rattle.tally_setup.specs.Code.{code_cmp}
use Rattle.tally_setup.specs.Constituency.{Constituency}
use Rattle.tally_setup.specs.Setup.{constituency_with}
use Rattle.tally_returns.specs.State.{State}
use Rattle.tally_returns.specs.View.{view_of}
use Rattle.tally_machine_law.specs.LawfulState.{IsLawfulState}
use Rattle.tally_store_rows.specs.Views.{statuses_of}
use Rattle.tally_store_rows.specs.declared.views.Statuses.{Statuses}
use Rattle.tally_store_open.specs.OfficeRows.{AreOfficeRows, RowsInOrder}

-- by the code of the constituency
abbrev pub Numbers : Type 0
Numbers = FinMap code_cmp Statuses

abbrev pub numbers_of : BTreeMap (List ℕ) Statuses → Numbers
numbers_of tree = from_entries tree.entries

-- Those of each constituency are there, and are what is seen of it in this state, whatever its
-- seats.
abbrev pub HasNumbers : List Constituency → State → Numbers → Type 0
HasNumbers setup s numbers =
    (con : Constituency) → constituency_with con.code setup ≡ Some con
    → get numbers con.code ≡ Some (statuses_of (view_of con s []))

-- the same of every lawful state whose rows these are
abbrev pub HasNumbersOfRows : List Constituency → RowsInOrder → Numbers → Type 0
HasNumbersOfRows setup rows numbers =
    (s : State) → IsLawfulState setup s → AreOfficeRows setup s rows → HasNumbers setup s numbers
