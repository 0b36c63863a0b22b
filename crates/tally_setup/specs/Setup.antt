-- A setup as contracts see it: its constituencies in order, and what a code names in them.
use Rattle.std.specs.Prelude.{ℕ, List, map, Option}
use Rattle.std.specs.List.{find, flat_map}
use Rattle.std.specs.Str.{bytes_eq}
use Rattle.tally_setup.specs.Constituency.{Constituency}
use Rattle.tally_setup.specs.declared.constituency.Station.{Station}

-- every station, in order, with its constituency
abbrev pub all_stations : List Constituency → List (Constituency × Station)
all_stations cons =
    flat_map (λ (con : Constituency). map (λ (station : Station). (con, station)) con.stations) cons

-- the constituency of the code
abbrev pub constituency_with : List ℕ → List Constituency → Option Constituency
constituency_with code cons = find (λ (con : Constituency). bytes_eq code con.code) cons

-- the station of the code, with its constituency
abbrev pub station_with : List ℕ → List Constituency → Option (Constituency × Station)
station_with code cons =
    find (λ (place : Constituency × Station). bytes_eq code place.1.code) (all_stations cons)

abbrev pub constituency_codes : List Constituency → List (List ℕ)
constituency_codes cons = map (λ (con : Constituency). con.code) cons

abbrev pub all_station_codes : List Constituency → List (List ℕ)
all_station_codes cons = map (λ (place : Constituency × Station). place.1.code) (all_stations cons)
