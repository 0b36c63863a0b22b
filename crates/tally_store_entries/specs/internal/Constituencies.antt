-- What writing and looking up a constituency does to its tables.
use Rattle.std.specs.Prelude.{◌≡◌, ◌≢◌, ◌≤◌, ℕ, Bool, true, false, List, [], ◌∷◌, length, map}
use Rattle.std.specs.Prelude.{Option, Some, None, IfSome, IsSome, IsPermutation, Result, OnOk}
use Rattle.std.specs.Prelude.{slice_index}
use Rattle.std.specs.FinMap.{FinMap, get, insert}
use Rattle.sqlite_value.specs.Order.{Row}
use Rattle.sqlite.specs.declared.error.Error.{Error}
use Rattle.sqlite.specs.State.{State as Seen, HasCleanDisk}
use Rattle.tally_store_schema.specs.Rows.{AreRowsOf}
use Rattle.tally_frac.specs.Limits.{most_lists}
use Rattle.tally_setup.specs.Code.{code_cmp}
use Rattle.tally_setup.specs.Constituency.{Constituency}
use Rattle.tally_setup.specs.Setup.{constituency_with}
use Rattle.tally_returns.specs.Counts.{VoteCounts}
use Rattle.tally_returns.specs.GoneCandidate.{GoneCandidate}
use Rattle.tally_returns.specs.PastSeats.{PastSeats}
use Rattle.tally_returns.specs.Progress.{progress_row}
use Rattle.tally_returns.specs.Return.{Returns}
use Rattle.tally_returns.specs.State.{State, ConState, con_state}
use Rattle.tally_returns.specs.View.{View, past_records}
use Rattle.tally_returns.specs.declared.progress.ProgressRow.{ProgressRow}
use Rattle.tally_machine_law.specs.LawfulState.{IsLawfulState}
use Rattle.tally_machine_law.specs.Step.{IsView}
use Rattle.tally_store_schema.specs.Tables.{setup_tree}
use Rattle.tally_store_schema.specs.declared.table.KeyedTable.{KeyedTable}
use Rattle.tally_store_schema.specs.declared.table.KeyedTable.TheVariants.{Returns as Heads, Cons}
use Rattle.tally_store_schema.specs.declared.table.KeyedTable.TheVariants.{Seats, Totals}
use Rattle.tally_store_schema.specs.Office.{tree_of, rows_in, IsInside}
use Rattle.tally_store_rows.specs.Cells.{item_row, items_of, con_rows, return_rows, seat_rows}
use Rattle.tally_store_rows.specs.Cells.{total_rows, totals_of}
use Rattle.tally_store_rows.specs.TablesOfState.{AreTables}
use Rattle.tally_store_rows.specs.declared.views.Statuses.{Statuses}
use Rattle.tally_store_entries.specs.internal.Entries.{stored_in}
use Rattle.tally_store_entries.specs.internal.Statuses.{statuses_in}

-- The office's tables are open in a transaction, and only this one may have changed.
pub record ChangesOnly (t : KeyedTable) (old new : Seen) : Type 0 where
  pub inside : IsInside new
  pub others : (u : KeyedTable) → tree_of u ≢ tree_of t → stored_in u new ≡ stored_in u old
  pub setup_is : new.now.trees setup_tree ≡ old.now.trees setup_tree

-- Where the table had the rows of these constituencies, and the one of the code changed in this
-- way, the table has the rows of the constituencies after the change.
abbrev pub MovesRows : KeyedTable → (List ℕ × ConState → List Row) → List ℕ
    → (ConState → ConState → Type 0) → Seen → Seen → Type 0
MovesRows t rows_of code Becomes old new =
    (cons : FinMap code_cmp ConState) (before standing : ConState) → get cons code ≡ Some before
    → Becomes before standing
    → AreRowsOf rows_of cons (stored_in t old)
    → AreRowsOf rows_of (insert cons code standing) (stored_in t new)

-- What holds after a call that writes the rows of a constituency in a table, where the disk
-- returned what was written.
abbrev pub Writes : KeyedTable → (List ℕ × ConState → List Row) → List ℕ
    → (ConState → ConState → Type 0) → Seen → Seen → Result Unit Error → Type 0
Writes t rows_of code Becomes old new result =
    HasCleanDisk new → IsInside old
    → OnOk result (ChangesOnly t old new × MovesRows t rows_of code Becomes old new)

-- What holds after a call that changes the rows of a constituency in a table, where the disk
-- returned what was written and the table had the rows of these constituencies.
abbrev pub Changes : KeyedTable → (List ℕ × ConState → List Row) → List ℕ
    → (ConState → ConState → Type 0) → Seen → Seen → Result Unit Error → Type 0
Changes t rows_of code Becomes old new result =
    HasCleanDisk new → IsInside old → (cons : FinMap code_cmp ConState) (before standing : ConState)
    → get cons code ≡ Some before → Becomes before standing
    → AreRowsOf rows_of cons (stored_in t old)
    → OnOk result
    (ChangesOnly t old new × AreRowsOf rows_of (insert cons code standing) (stored_in t new))

-- it has this edition and this note now, and is certified or not
abbrev pub HasEdition : ℕ → Bool → List ℕ → ConState → ConState → Type 0
HasEdition edition certified note before standing =
    (standing.edition ≡ edition) × (standing.certified ≡ certified) × (standing.note ≡ note)

-- it has this lot now
abbrev pub HasLot : List ℕ → ConState → ConState → Type 0
HasLot lot before standing = standing.lot ≡ lot

-- one candidate more is gone
abbrev pub HasGone : GoneCandidate → ConState → ConState → Type 0
HasGone gone before standing =
    (get before.gone (gone.list ∷ gone.place ∷ []) ≡ None)
    × (standing.gone ≡ insert before.gone (gone.list ∷ gone.place ∷ []) gone.note)

-- one certificate more is on record
abbrev pub HasRecord : PastSeats → ConState → ConState → Type 0
HasRecord past before standing =
    (get before.past past.edition ≡ None)
    × (standing.past ≡ insert before.past past.edition past.seats)

-- the rows of sums, by the code of the constituency
abbrev pub sum_rows : (List ℕ → VoteCounts) → List ℕ × ConState → List Row
sum_rows sums e = map (item_row e.0) (items_of (sums e.0))

-- Sums for as many lists differ at most where these counts are not 0.
pub record DifferBy (by before now : VoteCounts) : Type 0 where
  pub lists : length before.votes ≡ length now.votes
  pub votes : (place : ℕ) → slice_index by.votes place ≡ 0
      → slice_index before.votes place ≡ slice_index now.votes place
  pub blank : by.blank ≡ 0 → before.blank ≡ now.blank
  pub spoiled : by.spoiled ≡ 0 → before.spoiled ≡ now.spoiled

-- Where `totals` had sums of these constituencies, and those of this one differed from these sums
-- at most by these counts, it now has these sums for this one. The others are as they were.
abbrev pub ChangesSums : List ℕ → VoteCounts → VoteCounts → Seen → Seen → Result Unit Error → Type 0
ChangesSums code by sums old new result =
    HasCleanDisk new → IsInside old
    → (cons : FinMap code_cmp ConState) (before standing : List ℕ → VoteCounts)
    → IsSome (get cons code)
    → DifferBy by (before code) sums → standing code ≡ sums
    → ((other : List ℕ) → other ≢ code → standing other ≡ before other)
    → AreRowsOf (sum_rows before) cons (stored_in Totals old)
    → OnOk result
    (ChangesOnly Totals old new × AreRowsOf (sum_rows standing) cons (stored_in Totals new))

-- Where `seats` had the seats of these constituencies, it now has these for the one of the code.
-- The others are as they were.
abbrev pub MovesSeats : List ℕ → List ℕ → Seen → Seen → Type 0
MovesSeats code seats old new =
    (cons : FinMap code_cmp ConState) (before standing : List ℕ → List ℕ) → IsSome (get cons code)
    → standing code ≡ seats → ((other : List ℕ) → other ≢ code → standing other ≡ before other)
    → AreRowsOf (seat_rows before) cons (stored_in Seats old)
    → AreRowsOf (seat_rows standing) cons (stored_in Seats new)

abbrev pub WritesSeats : List ℕ → List ℕ → Seen → Seen → Result Unit Error → Type 0
WritesSeats code seats old new result =
    HasCleanDisk new → IsInside old
    → OnOk result (ChangesOnly Seats old new × MovesSeats code seats old new)

-- ---- what is found

-- What is found of a constituency is whether it is certified.
abbrev pub FindsCertified : List ℕ → Seen → Bool → Type 0
FindsCertified code s found =
    (cons : FinMap code_cmp ConState) (standing : ConState) → get cons code ≡ Some standing
    → AreRowsOf con_rows cons (stored_in Cons s) → found ≡ standing.certified

-- What is found of a constituency is the sums of its closed returns, for at most 60 lists.
abbrev pub FindsSums : List ℕ → Seen → VoteCounts → Type 0
FindsSums code s found =
    (setup : List Constituency) (returns : Returns) (cons : FinMap code_cmp ConState)
    → IsSome (get cons code) → length (totals_of setup returns code).votes ≤ most_lists
    → AreRowsOf (total_rows setup returns) cons (stored_in Totals s)
    → found ≡ totals_of setup returns code

-- What is known of a constituency, if anything, is how many of its returns are in each status.
abbrev pub IsKnown : Constituency → Returns → Option Statuses → Type 0
IsKnown con returns known = IfSome known (λ statuses. statuses ≡ statuses_in returns con.stations)

-- the view with all certificates on record that the constituency has in this state
abbrev pub with_past_of : Constituency → State → View → View
with_past_of con of view = record view { past = past_records (con_state of con.code).past }

-- This is what is seen of a constituency in a state, or all of it but for the certificates on
-- record, of which it then has none.
abbrev pub IsViewWith : Bool → Constituency → State → View → Type 0
IsViewWith true con of view = IsView con of view
IsViewWith false con of view = (view.past ≡ []) × IsView con of (with_past_of con of view)

-- What is found of a constituency is its view, with the certificates on record or without them,
-- where what is known of it is true.
abbrev pub FindsView : List Constituency → Constituency → Option Statuses → Bool → Seen → View
    → Type 0
FindsView setup con known with_past s found =
    (text : List ℕ) (of : State) → constituency_with con.code setup ≡ Some con
    → IsLawfulState setup of → IsKnown con of.returns known
    → AreTables setup text of s.now.trees → IsViewWith with_past con of found

-- these are the rows of `cons`, in any order
abbrev pub AreCons : List Row → Seen → Type 0
AreCons rows s = IsPermutation (rows_in Cons s) rows

-- What is found of a constituency is how far it has come, where what is known of it is true and
-- these are the rows of `cons`.
abbrev pub FindsProgressRow : Constituency → Option Statuses → List Row → Seen → ProgressRow
    → Type 0
FindsProgressRow con known rows s row =
    (setup : List Constituency) (of : State) → IsSome (get of.cons con.code)
    → IsKnown con of.returns known → AreCons rows s
    → AreRowsOf (return_rows setup) of.returns (stored_in Heads s)
    → AreRowsOf con_rows of.cons (stored_in Cons s) → row ≡ progress_row of con
