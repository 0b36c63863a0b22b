-- The returns of a constituency as CSV (RFC 4180), which an import takes: a header, then a row for
-- each station that has a return, whatever its status.
--
--     station,slip,blank,spoiled,A,B
--     s1,p1,0,0,100,100
use Rattle.std.specs.Prelude.{List, ℕ, [], ◌∷◌, ◌++◌, map, codes}
use Rattle.std.specs.Fmt.{decimal}
use Rattle.std.specs.List.{flat_map}
use Rattle.std.specs.Option.{option_map_or}
use Rattle.csv.specs.Writing.{default_writer, row_text}
use Rattle.tally_setup.specs.Constituency.{Constituency, list_codes}
use Rattle.tally_returns.specs.Return.{StationReturn}
use Rattle.tally_returns.specs.declared.station_row.StationRow.{StationRow}

abbrev pub header_fields : Constituency → List (List ℕ)
header_fields con =
    codes "station" ∷ codes "slip" ∷ codes "blank" ∷ codes "spoiled" ∷ list_codes con.lists

abbrev pub return_fields : List ℕ → StationReturn → List (List ℕ)
return_fields station standing =
    station ∷ standing.slip ∷ decimal standing.counts.blank ∷ decimal standing.counts.spoiled
    ∷ map decimal standing.counts.votes

-- the record of a return, if there is one
abbrev pub record_of : StationRow → List (List (List ℕ))
record_of row = option_map_or (λ standing. return_fields row.station standing ∷ []) row.found []

-- each record as the library writes it by default: its fields with a comma between them, and one
-- line end, the byte 0A; none of these fields has a byte for which it would be quoted
abbrev pub returns_text : Constituency → List StationRow → List ℕ
returns_text con rows = flat_map (row_text default_writer)
    (header_fields con ∷ flat_map record_of rows)
