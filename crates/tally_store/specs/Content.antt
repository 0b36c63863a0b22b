-- The state that the tables of an office read as.
use Rattle.std.specs.Prelude.{if◌then◌else◌, List, [], ◌∷◌, map, Option, Some, None}
use Rattle.std.specs.Prelude.{option_and_then, option_map, unwrap_or, ℕ}
use Rattle.std.specs.FinMap.{from_entries, from_sorted}
use Rattle.std.specs.declared.cmp.Ordering.{Ordering}
use Rattle.sqlite_keyed.specs.Lists.{sort_by}
use Rattle.sqlite_value.specs.Order.{Row, row_cmp}
use Rattle.sqlite.specs.State.{State as Seen}
use Rattle.tally_setup.specs.Constituency.{Constituency}
use Rattle.tally_returns.specs.GoneCandidate.{GoneCandidate}
use Rattle.tally_returns.specs.PastSeats.{PastSeats}
use Rattle.tally_returns.specs.Return.{StationReturn}
use Rattle.tally_returns.specs.State.{ConState, State, opening}
use Rattle.tally_returns.specs.View.{View}
use Rattle.tally_keeper.specs.Kept.{Kept, opening_kept, view_in}
use Rattle.tally_store_schema.specs.declared.table.KeyedTable.{KeyedTable}
use Rattle.tally_store_schema.specs.declared.table.KeyedTable.TheVariants.{Returns, Counts, Cons}
use Rattle.tally_store_schema.specs.declared.table.KeyedTable.TheVariants.{Lots, Seats, Gone}
use Rattle.tally_store_schema.specs.declared.table.KeyedTable.TheVariants.{Totals}
use Rattle.tally_store_schema.specs.declared.table.KeyedTable.TheVariants.{Past}
use Rattle.tally_store_schema.specs.Office.{key_cells, rows_in}
use Rattle.tally_store_rows.specs.Reading.{entries_in}
use Rattle.tally_store_rows.specs.Views.{views_from}
use Rattle.tally_store_open.specs.OfficeRows.{RowsInOrder}

-- the order of rows by the columns of their key
abbrev pub by_key : KeyedTable → Row → Row → Ordering
by_key t a b = row_cmp (key_cells t a) (key_cells t b)

-- the rows of a table in the order of its key
abbrev pub sorted_rows : KeyedTable → Seen → List Row
sorted_rows t seen = sort_by (by_key t) (rows_in t seen)

abbrev pub office_rows : Seen → RowsInOrder
office_rows seen = record {
  returns = sorted_rows Returns seen;
  counts = sorted_rows Counts seen;
  cons = sorted_rows Cons seen;
  tables = record {
    lots = sorted_rows Lots seen;
    seats = sorted_rows Seats seen;
    gone = sorted_rows Gone seen;
    totals = sorted_rows Totals seen;
    past = sorted_rows Past seen;
  };
}

-- a candidate who is gone, and a certificate that was reopened, each under its key
abbrev pub gone_entry : GoneCandidate → List ℕ × List ℕ
gone_entry gone = (gone.list ∷ gone.place ∷ [], gone.note)

abbrev pub past_entry : PastSeats → ℕ × List ℕ
past_entry past = (past.edition, past.seats)

-- what a constituency has come to, by what is seen of it
abbrev pub con_seen : View → ConState
con_seen view = record {
  edition = view.edition;
  certified = view.certified;
  note = view.note;
  lot = view.lot;
  gone = from_sorted (map gone_entry view.gone);
  past = from_sorted (map past_entry view.past);
}

abbrev pub con_entry : List ℕ × View → List ℕ × ConState
con_entry e = (e.0, con_seen e.1)

-- an office that has these returns alone
abbrev pub with_returns : List Constituency → List (List ℕ × StationReturn) → Kept
with_returns setup returns = record (opening_kept setup) { returns = from_entries returns }

-- the state with these returns, and with what is seen of each constituency
abbrev pub state_with : List (List ℕ × StationReturn) → List (List ℕ × View) → State
state_with returns cons = record {
  returns = from_sorted returns;
  cons = from_sorted (map con_entry cons);
}

-- the constituencies that the rows read as beside these returns
abbrev pub cons_read : List Constituency → RowsInOrder → List (List ℕ × StationReturn)
    → Option (List (List ℕ × View))
cons_read setup rows returns =
    views_from setup (view_in (with_returns setup returns)) rows.cons rows.tables

-- the state that rows read as, where they read as one
abbrev pub state_of_rows : List Constituency → RowsInOrder → Option State
state_of_rows setup rows =
    option_and_then (λ returns. option_map (state_with returns) (cons_read setup rows returns))
    (entries_in setup rows.returns rows.counts)

-- the state that the tables read as
unfoldable pub state_read : List Constituency → Seen → Option State
state_read setup seen = state_of_rows setup (office_rows seen)

-- The state whose tables they are, while the connection is open. Where it is shut there is none. A
-- disk that did not return what was written may leave tables that read as none. Then nothing is
-- said of the state, and the opening state is taken for it.
abbrev pub content_of : List Constituency → Seen → Option State
content_of setup seen =
    if seen.is_open then Some (unwrap_or (state_read setup seen) (opening setup)) else None
