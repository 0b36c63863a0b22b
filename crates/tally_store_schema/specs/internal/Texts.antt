-- The texts that make the tables of the office.
use Rattle.std.specs.Prelude.{codes, List, ℕ, ◌==◌, if◌then◌else◌}

abbrev pub create_setup_text : List ℕ
create_setup_text = codes "CREATE TABLE setup (id INTEGER NOT NULL PRIMARY KEY, version INTEGER NOT NULL, text TEXT NOT NULL) STRICT"

abbrev pub create_returns_text : List ℕ
create_returns_text = codes "CREATE TABLE returns (station TEXT NOT NULL PRIMARY KEY, con TEXT NOT NULL, rev INTEGER NOT NULL, slip TEXT NOT NULL, status INTEGER NOT NULL CHECK (status >= 1 AND status <= 4), note TEXT NOT NULL) STRICT"

abbrev pub create_counts_text : List ℕ
create_counts_text = codes "CREATE TABLE counts (station TEXT NOT NULL, item INTEGER NOT NULL, n INTEGER NOT NULL CHECK (n >= 0), PRIMARY KEY (station, item)) STRICT"

abbrev pub create_cons_text : List ℕ
create_cons_text = codes "CREATE TABLE cons (con TEXT NOT NULL PRIMARY KEY, edition INTEGER NOT NULL, certified INTEGER NOT NULL, note TEXT NOT NULL) STRICT"

abbrev pub create_lots_text : List ℕ
create_lots_text = codes "CREATE TABLE lots (con TEXT NOT NULL, place INTEGER NOT NULL, list INTEGER NOT NULL, PRIMARY KEY (con, place)) STRICT"

abbrev pub create_seats_text : List ℕ
create_seats_text = codes "CREATE TABLE seats (con TEXT NOT NULL, list INTEGER NOT NULL, n INTEGER NOT NULL, PRIMARY KEY (con, list)) STRICT"

abbrev pub create_gone_text : List ℕ
create_gone_text = codes "CREATE TABLE gone (con TEXT NOT NULL, list INTEGER NOT NULL, place INTEGER NOT NULL, note TEXT NOT NULL, PRIMARY KEY (con, list, place)) STRICT"

abbrev pub create_totals_text : List ℕ
create_totals_text = codes "CREATE TABLE totals (con TEXT NOT NULL, item INTEGER NOT NULL, n INTEGER NOT NULL CHECK (n >= 0), PRIMARY KEY (con, item)) STRICT"

abbrev pub create_past_text : List ℕ
create_past_text = codes "CREATE TABLE past (con TEXT NOT NULL, edition INTEGER NOT NULL, list INTEGER NOT NULL, n INTEGER NOT NULL, PRIMARY KEY (con, edition, list)) STRICT"

-- by the places of the tables, in the order in which they are made
abbrev pub create_text : ℕ → List ℕ
create_text place =
    if place == 0 then create_setup_text
    else if place == 1 then create_returns_text
    else if place == 2 then create_counts_text
    else if place == 3 then create_cons_text
    else if place == 4 then create_lots_text
    else if place == 5 then create_seats_text
    else if place == 6 then create_gone_text
    else if place == 7 then create_totals_text
    else create_past_text
