-- Constituencies, as their rows read.
use Rattle.std.specs.Prelude.{◌==◌, ◌&&◌, if◌then◌else◌, ℕ, Bool, List, [], ◌∷◌, length, take, drop}
use Rattle.std.specs.Prelude.{Option, Some, None, option_and_then, option_map}
use Rattle.std.specs.List.{prefix_len}
use Rattle.sqlite_value.specs.Order.{Row, column}
use Rattle.tally_store_schema.specs.Values.{text_of}
use Rattle.tally_setup.specs.Code.{code_of}
use Rattle.tally_setup.specs.Constituency.{Constituency}
use Rattle.tally_setup.specs.Setup.{constituency_with}
use Rattle.tally_returns.specs.View.{View}
use Rattle.tally_store_rows.specs.Reading.{◌>>=◌, has_text, standing_of, numbers_from, all_gone_of}
use Rattle.tally_store_rows.specs.Reading.{sums_of, past_of}
use Rattle.tally_store_rows.specs.declared.constituencies.Standing.{Standing}
use Rattle.tally_store_rows.specs.declared.parts.ConTables.{ConTables}
use Rattle.tally_store_rows.specs.declared.views.Statuses.{Statuses}

-- the rows of constituencies in the tables that may have several rows of each
pub record Tables : Type 0 where
  pub lots : List Row
  pub seats : List Row
  pub gone : List Row
  pub totals : List Row
  pub past : List Row

abbrev pub tables_in : ConTables → Tables
tables_in tables = record {
  lots = tables.lots.now;
  seats = tables.seats.now;
  gone = tables.gone.now;
  totals = tables.totals.now;
  past = tables.past.now;
}

-- a part of the rows of each table
abbrev pub in_each : (List Row → List Row) → Tables → Tables
in_each part tables = record {
  lots = part tables.lots;
  seats = part tables.seats;
  gone = part tables.gone;
  totals = part tables.totals;
  past = part tables.past;
}

-- no table has a row
abbrev pub is_empty : Tables → Bool
is_empty tables =
    (length tables.lots == 0) && (length tables.seats == 0) && (length tables.gone == 0)
    && (length tables.totals == 0) && (length tables.past == 0)

-- how many rows at the start have this key
abbrev pub key_len : List ℕ → List Row → ℕ
key_len key rows = prefix_len (λ row. has_text row 0 key) rows

abbrev pub rows_of_key : List ℕ → List Row → List Row
rows_of_key key rows = take (key_len key rows) rows

abbrev pub rows_after : List ℕ → List Row → List Row
rows_after key rows = drop (key_len key rows) rows

-- the same of each table
abbrev pub tables_of_key : List ℕ → Tables → Tables
tables_of_key key tables = in_each (rows_of_key key) tables

abbrev pub tables_after : List ℕ → Tables → Tables
tables_after key tables = in_each (rows_after key) tables

-- what a row of `cons` has beside its code
abbrev pub standing_value : Standing → ℕ × Bool × List ℕ
standing_value standing = (standing.edition, standing.certified, standing.note.now)

-- the numbers of stations and of returns in each status, of what is seen
abbrev pub statuses_of : View → Statuses
statuses_of view = record {
  stations = view.stations;
  received = view.received;
  queried = view.queried;
  corrected = view.corrected;
  closed = view.closed;
}

-- what is seen of a constituency with these numbers of returns by status, by its row of `cons` and
-- its rows of the other tables
abbrev pub view_from_tables : Constituency → Statuses → Row → Tables → Option View
view_from_tables con statuses row tables = do
  standing ← standing_of con.code row
  lot ← numbers_from con.code 1 tables.lots
  seats ← numbers_from con.code 1 tables.seats
  gone ← all_gone_of con.code tables.gone
  sums ← sums_of con.code tables.totals
  option_map (λ past. record {
    edition = standing.0;
    certified = standing.1;
    note = standing.2;
    lot = lot;
    stations = statuses.stations;
    received = statuses.received;
    queried = statuses.queried;
    corrected = statuses.corrected;
    closed = statuses.closed;
    votes = sums.votes;
    blank = sums.blank;
    spoiled = sums.spoiled;
    seats = seats;
    gone = gone;
    past = past;
  }) (past_of con.code (length con.lists) tables.past)

-- the constituency that a row of `cons` names
abbrev pub con_at : List Constituency → Row → Option Constituency
con_at setup row = do
  code ← option_and_then code_of (text_of (column row 0))
  constituency_with code setup

-- a constituency with its code, by its row of `cons` and its rows of the other tables; the numbers
-- of its returns are those that were counted
abbrev pub view_with_code : View → Row → Tables → Constituency → Option (List ℕ × View)
view_with_code counted row tables con =
    option_map (λ view. (con.code, view)) (view_from_tables con (statuses_of counted) row tables)

-- the first constituency, and those that the other rows read as
abbrev pub next_view : (Tables → Option (List (List ℕ × View))) → View → Row → Tables → Constituency
    → Option (List (List ℕ × View))
next_view others counted row tables con = do
  e ← view_with_code counted row (tables_of_key con.code tables) con
  option_map (λ es. e ∷ es) (others (tables_after con.code tables))

-- the constituencies whose rows the tables hold, one after the other, in whatever order
abbrev pub views_from : List Constituency → (Constituency → View) → List Row → Tables
    → Option (List (List ℕ × View))
views_from setup counted [] tables = if is_empty tables then Some [] else None
views_from setup counted (row ∷ rows) tables = do
  con ← con_at setup row
  next_view (views_from setup counted rows) (counted con) row tables con
