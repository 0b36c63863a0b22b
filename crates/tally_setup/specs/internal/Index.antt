-- What is kept so that a code is found at once. No public contract speaks of it.
use Rattle.std.specs.Prelude.{ℕ, suc, zero, ◌≡◌, List, [], ◌∷◌, ◌++◌, map, Option, Some}
use Rattle.std.specs.Prelude.{option_map}
use Rattle.std.specs.HashMap.{HashMap, get}
use Rattle.std.specs.declared.hash.BuildHasherDefault.{BuildHasherDefault}
use Rattle.std.specs.declared.hash.FoldHasher.{FoldHasher}
use Rattle.std.specs.List.{slice_get}
use Rattle.std.specs.Option.{option_and_then}
use Rattle.std.specs.Str.{bytes_eq}
use Rattle.tally_setup.specs.Codes.{AreDistinct, index_of}
use Rattle.tally_setup.specs.Constituency.{Constituency}
use Rattle.tally_setup.specs.Limits.{IsSetup}
use Rattle.tally_setup.specs.Setup.{all_stations, constituency_codes, all_station_codes}
use Rattle.tally_setup.specs.declared.constituency.Station.{Station}
use Rattle.tally_setup.specs.declared.setup.StationPlace.{StationPlace}

-- a map from codes to places
abbrev pub Places : Type 0
Places = HashMap (List ℕ) ℕ (BuildHasherDefault FoldHasher)

-- No two of the codes are the same, and the map has the place of each.
pub record IsIndex (codes : List (List ℕ)) (places : Places) : Type 0 where
  pub distinct : AreDistinct codes
  pub found : (code : List ℕ) → get bytes_eq places code ≡ index_of code codes

-- the station at a place, by the number of its constituency and its own number in it
abbrev pub station_at : List Constituency → StationPlace → Option (Constituency × Station)
station_at cons place = option_and_then
    (λ (con : Constituency).
    option_map (λ (station : Station). (con, station)) (slice_get con.stations place.station))
    (slice_get cons place.con)

-- Beside the constituencies of a setup: their codes, the codes of all stations, and the place of
-- each station.
pub record IsIndexed (cons : List Constituency) (codes stations : List (List ℕ))
    (places : List StationPlace) : Type 0 where
  pub limits : IsSetup cons
  pub codes_are : codes ≡ constituency_codes cons
  pub stations_are : stations ≡ all_station_codes cons
  pub places_are : map (station_at cons) places ≡ map Some (all_stations cons)

-- the places of this many stations of one constituency
abbrev pub places_in : ℕ → ℕ → List StationPlace
places_in con zero = []
places_in con (suc stations) =
    places_in con stations ++ record { con = con; station = stations } ∷ []
