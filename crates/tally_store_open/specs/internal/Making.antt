-- What the steps of making an office leave in a transaction. No public contract speaks of this.
use Rattle.std.specs.Prelude.{◌≡◌, ◌≢◌, ◌++◌, ℕ, pos, List, [], ◌∷◌, map, length, IsOk}
use Rattle.std.specs.Prelude.{IsPermutation, Result, OnOk}
use Rattle.std.specs.List.{flat_map}
use Rattle.sqlite_value.specs.declared.value.Value.TheVariants.{Int, Text}
use Rattle.sqlite_value.specs.Order.{Row}
use Rattle.sqlite.specs.declared.error.Error.{Error}
use Rattle.sqlite.specs.State.{State as Seen, HasCleanDisk}
use Rattle.sqlite_trees.specs.Tree.{Trees}
use Rattle.sqlite_schema.specs.declared.schema.Schema.{Schema}
use Rattle.tally_keeper.specs.declared.fault.CreateFault.{CreateFault}
use Rattle.tally_setup.specs.Constituency.{Constituency}
use Rattle.tally_rules.specs.Reading.{setup_of_text}
use Rattle.tally_returns.specs.Counts.{VoteCounts}
use Rattle.tally_returns.specs.State.{opening}
use Rattle.tally_returns.specs.View.{votes_of_lists}
use Rattle.tally_store_schema.specs.Made.{HasEmptyTables}
use Rattle.tally_store_schema.specs.Tables.{setup_tree}
use Rattle.tally_store_schema.specs.declared.table.KeyedTable.{KeyedTable}
use Rattle.tally_store_schema.specs.declared.table.KeyedTable.TheVariants.{Cons, Totals}
use Rattle.tally_store_schema.specs.Office.{IsInside, HasRows, rows_in, tree_of}
use Rattle.tally_store_rows.specs.Cells.{item_row, items_of, numbers_with_places}
use Rattle.tally_store_open.specs.Create.{IsCreateFault, MakesOffice}
use Rattle.tally_store_open.specs.Office.{IsWholeOffice}

-- why no office is made in a database of this schema, of whatever text that is a setup
abbrev pub IsFaultOfEachSetup : Schema → CreateFault → Type 0
IsFaultOfEachSetup schema fault =
    (text : List ℕ) → IsOk (setup_of_text text) → IsCreateFault text schema fault

-- the sums of no return, for this many lists
abbrev pub no_votes : ℕ → VoteCounts
no_votes lists = record { votes = votes_of_lists lists []; blank = 0; spoiled = 0 }

-- their rows in `totals`
abbrev pub no_vote_rows : List ℕ → ℕ → List Row
no_vote_rows code lists = map (item_row code) (items_of (no_votes lists))

-- the rows of the lists alone
abbrev pub no_list_rows : List ℕ → ℕ → List Row
no_list_rows code lists = map (item_row code) (numbers_with_places 1 (votes_of_lists lists []))

-- the row of a constituency in `cons` as it opens, and its rows in `totals`
abbrev pub opening_row : Constituency → Row
opening_row con = Text con.code ∷ Int (pos 1) ∷ Int (pos 0) ∷ Text [] ∷ []

abbrev pub opening_totals : Constituency → List Row
opening_totals con = no_vote_rows con.code (length con.lists)

-- these rows are in `totals` now beside those that were there
abbrev pub AddsTotals : List Row → Seen → Seen → Type 0
AddsTotals rows old new = HasRows Totals (rows ++ rows_in Totals old) old new

-- The rows of these constituencies as they open are there now beside those that were there, and
-- every other table is as it was.
pub record AddsCons (cons : List Constituency) (old new : Seen) : Type 0 where
  pub inside : IsInside new
  pub rows : IsPermutation (map opening_row cons ++ rows_in Cons old) (rows_in Cons new)
  pub totals :
      IsPermutation (flat_map opening_totals cons ++ rows_in Totals old) (rows_in Totals new)
  pub others : (t : KeyedTable) → tree_of t ≢ tree_of Cons → tree_of t ≢ tree_of Totals
      → new.now.trees (tree_of t) ≡ old.now.trees (tree_of t)
  pub setup : new.now.trees setup_tree ≡ old.now.trees setup_tree

-- The tables of the office are open in a transaction, and are those of the opening state and no
-- others.
pub record IsMade (setup : List Constituency) (text : List ℕ) (seen : Seen) : Type 0 where
  pub inside : IsInside seen
  pub whole : IsWholeOffice setup text (opening setup) seen.now.trees

-- ---- what a call says, where the disk returned what was written

abbrev pub Totalled : List Row → Seen → Seen → Result Unit Error → Type 0
Totalled rows old new result =
    HasCleanDisk new → IsInside old → OnOk result (AddsTotals rows old new)

abbrev pub Opened : List Constituency → Seen → Seen → Result Unit Error → Type 0
Opened cons old new result = HasCleanDisk new → IsInside old → OnOk result (AddsCons cons old new)

abbrev pub Made : List Constituency → List ℕ → Seen → Seen → Result Unit Error → Type 0
Made setup text old new result =
    HasCleanDisk new → HasEmptyTables 0 old → OnOk result (IsMade setup text new)

-- ---- the whole transaction

-- stored are the tables of the opening state, and no others
abbrev pub IsNew : List Constituency → List ℕ → Trees → Type 0
IsNew setup text db = IsWholeOffice setup text (opening setup) db

-- with Ok the database is that of the opening state
abbrev pub MakesNew : List Constituency → List ℕ → Seen → Seen → Result Unit Error → Type 0
MakesNew setup text old new result = OnOk result (MakesOffice text setup old new)
