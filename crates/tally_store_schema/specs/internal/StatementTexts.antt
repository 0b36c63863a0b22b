-- The statements of a running office, as sqlite is given them.
use Rattle.std.specs.Prelude.{◌+◌, ◌*◌, ◌++◌, List, ℕ, codes, take}
use Rattle.tally_store_schema.specs.declared.table.KeyedTable.{KeyedTable}
use Rattle.tally_store_schema.specs.declared.table.KeyedTable.TheVariants.{Returns, Counts, Cons}
use Rattle.tally_store_schema.specs.declared.table.KeyedTable.TheVariants.{Lots, Seats, Gone}
use Rattle.tally_store_schema.specs.declared.table.KeyedTable.TheVariants.{Totals}
use Rattle.tally_store_schema.specs.declared.table.KeyedTable.TheVariants.{Past}
use Rattle.tally_store_schema.specs.declared.numbered.NumberedTable.{NumberedTable}
use Rattle.tally_store_schema.specs.declared.numbered.NumberedTable.TheVariants as numbered

-- ---- INSERT of one row

abbrev pub insert_return_text : List ℕ
insert_return_text = codes
    "INSERT INTO returns (station, con, rev, slip, status, note) VALUES (?1, ?2, ?3, ?4, ?5, ?6)"

abbrev pub insert_con_text : List ℕ
insert_con_text = codes "INSERT INTO cons (con, edition, certified, note) VALUES (?1, ?2, ?3, ?4)"

abbrev pub insert_gone_text : List ℕ
insert_gone_text = codes "INSERT INTO gone (con, list, place, note) VALUES (?1, ?2, ?3, ?4)"

abbrev pub insert_total_text : List ℕ
insert_total_text = codes "INSERT INTO totals (con, item, n) VALUES (?1, ?2, ?3)"

abbrev pub insert_setup_text : List ℕ
insert_setup_text = codes "INSERT INTO setup (id, version, text) VALUES (1, ?1, ?2)"

-- ---- INSERT of several rows

abbrev pub eight_rows : List ℕ
eight_rows = codes
    "(?1, ?, ?), (?1, ?, ?), (?1, ?, ?), (?1, ?, ?), (?1, ?, ?), (?1, ?, ?), (?1, ?, ?), (?1, ?, ?)"

-- rows that begin with two values
abbrev pub four_long_rows : List ℕ
four_long_rows = codes "(?1, ?2, ?, ?), (?1, ?2, ?, ?), (?1, ?2, ?, ?), (?1, ?2, ?, ?)"

abbrev pub sixteen_rows : List ℕ
sixteen_rows = eight_rows ++ codes ", " ++ eight_rows

abbrev pub sixteen_long_rows : List ℕ
sixteen_long_rows =
    four_long_rows ++ codes ", " ++ four_long_rows ++ codes ", " ++ four_long_rows ++ codes ", "
    ++ four_long_rows

-- of as many rows as one statement adds at most
abbrev pub most_rows_text : NumberedTable → List ℕ
most_rows_text numbered.Counts = codes "INSERT INTO counts (station, item, n) VALUES " ++ sixteen_rows
most_rows_text numbered.Lots = codes "INSERT INTO lots (con, place, list) VALUES " ++ sixteen_rows
most_rows_text numbered.Seats = codes "INSERT INTO seats (con, list, n) VALUES " ++ sixteen_rows
most_rows_text numbered.Past =
    codes "INSERT INTO past (con, edition, list, n) VALUES " ++ sixteen_long_rows

-- where the text of this many rows ends in that
abbrev pub rows_end : NumberedTable → ℕ → ℕ
rows_end numbered.Counts rows = 43 + 12 * rows
rows_end numbered.Lots rows = 41 + 12 * rows
rows_end numbered.Seats rows = 38 + 12 * rows
rows_end numbered.Past rows = 46 + 16 * rows

abbrev pub insert_rows_text : NumberedTable → ℕ → List ℕ
insert_rows_text t rows = take (rows_end t rows) (most_rows_text t)

-- ---- UPDATE of one row

abbrev pub update_return_text : List ℕ
update_return_text =
    codes "UPDATE returns SET rev = ?2, slip = ?3, status = ?4, note = ?5 WHERE station = ?1"

abbrev pub update_count_text : List ℕ
update_count_text = codes "UPDATE counts SET n = ?3 WHERE station = ?1 AND item = ?2"

abbrev pub update_con_text : List ℕ
update_con_text = codes "UPDATE cons SET edition = ?2, certified = ?3, note = ?4 WHERE con = ?1"

abbrev pub update_total_text : List ℕ
update_total_text = codes "UPDATE totals SET n = ?3 WHERE con = ?1 AND item = ?2"

abbrev pub update_version_text : List ℕ
update_version_text = codes "UPDATE setup SET version = ?1"

-- ---- DELETE of the rows of a constituency

abbrev pub delete_lot_text : List ℕ
delete_lot_text = codes "DELETE FROM lots WHERE con = ?1"

abbrev pub delete_seats_text : List ℕ
delete_seats_text = codes "DELETE FROM seats WHERE con = ?1"

-- ---- SELECT of the rows of a key, in the order of the table's whole key

abbrev pub rows_of_text : KeyedTable → List ℕ
rows_of_text Returns =
    codes "SELECT station, con, rev, slip, status, note FROM returns WHERE station = ?1 ORDER BY station"
rows_of_text Counts =
    codes "SELECT station, item, n FROM counts WHERE station = ?1 ORDER BY station, item"
rows_of_text Cons =
    codes "SELECT con, edition, certified, note FROM cons WHERE con = ?1 ORDER BY con"
rows_of_text Lots = codes "SELECT con, place, list FROM lots WHERE con = ?1 ORDER BY con, place"
rows_of_text Seats = codes "SELECT con, list, n FROM seats WHERE con = ?1 ORDER BY con, list"
rows_of_text Gone =
    codes "SELECT con, list, place, note FROM gone WHERE con = ?1 ORDER BY con, list, place"
rows_of_text Totals = codes "SELECT con, item, n FROM totals WHERE con = ?1 ORDER BY con, item"
rows_of_text Past =
    codes "SELECT con, edition, list, n FROM past WHERE con = ?1 ORDER BY con, edition, list"

-- ---- SELECT of all rows, in the order of the table's key

abbrev pub all_rows_text : KeyedTable → List ℕ
all_rows_text Returns =
    codes "SELECT station, con, rev, slip, status, note FROM returns ORDER BY station"
all_rows_text Counts = codes "SELECT station, item, n FROM counts ORDER BY station, item"
all_rows_text Cons = codes "SELECT con, edition, certified, note FROM cons ORDER BY con"
all_rows_text Lots = codes "SELECT con, place, list FROM lots ORDER BY con, place"
all_rows_text Seats = codes "SELECT con, list, n FROM seats ORDER BY con, list"
all_rows_text Gone = codes "SELECT con, list, place, note FROM gone ORDER BY con, list, place"
all_rows_text Totals = codes "SELECT con, item, n FROM totals ORDER BY con, item"
all_rows_text Past = codes "SELECT con, edition, list, n FROM past ORDER BY con, edition, list"

-- ---- SELECT of the rows of `setup`

abbrev pub all_setup_text : List ℕ
all_setup_text = codes "SELECT id, version, text FROM setup ORDER BY id"
