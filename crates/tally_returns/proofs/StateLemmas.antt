-- The place of a station in a setup.
use Rattle.std.proofs.Common.{◌≡◌, ◌⊎◌, ◌++◌, ◌∷◌, ℕ, List, [], Bool, true, false, cond, map, Option, Some, ap, subst, inl, inr}
use Rattle.std.specs.List.{find}
use Rattle.std.specs.Str.{bytes_eq}
use Rattle.tally_setup.specs.Constituency.{Constituency}
use Rattle.tally_setup.specs.Setup.{all_stations, station_with}
use Rattle.tally_setup.specs.declared.constituency.Station.{Station}
use Rattle.tally_returns.specs.Decide.{station_in}

-- the place of each of a constituency's stations
abbrev pub places : Constituency → List Station → List (Constituency × Station)
places c stations = map (λ (x : Station). (c, x)) stations

abbrev pub place_with : List ℕ → List (Constituency × Station) → Option (Constituency × Station)
place_with code = find (λ (place : Constituency × Station). bytes_eq code place.1.code)

abbrev pub station_of : List ℕ → List Station → Option Station
station_of code = find (λ (x : Station). bytes_eq code x.code)

-- the constituency is this one and the station was found there, or the
-- place is in what comes after it
abbrev pub IsEither : List ℕ → Constituency → Station → Constituency → List (Constituency × Station) → Option Station → Type 0
IsEither code con station c more found = ((c ≡ con) × (found ≡ Some station)) ⊎ (place_with code more ≡ Some (con, station))

-- the first place of a code is among a constituency's own stations, the
-- first there, or else after them
pub either-in : (code : List ℕ) (con c : Constituency) (station : Station) (stations : List Station) (more : List (Constituency × Station))
    → place_with code (places c stations ++ more) ≡ Some (con, station)
    → IsEither code con station c more (station_of code stations)
either-in code con c station [] more is = inr is
either-in code con c station (x ∷ stations) more is = go (bytes_eq code x.code) is (either-in code con c station stations more)
  where
    go : (b : Bool) → cond b (Some (c, x)) (place_with code (places c stations ++ more)) ≡ Some (con, station)
        → (place_with code (places c stations ++ more) ≡ Some (con, station) → IsEither code con station c more (station_of code stations))
        → IsEither code con station c more (cond b (Some x) (station_of code stations))
    go true ok later = let same : (c, x) ≡ (con, station) = cc in inl (ap (λ (p : Constituency × Station). p.0) same, ap (λ (p : Constituency × Station). Some p.1) same)
    go false ok later = later ok

-- a station of the setup is one of its constituency
pub station_with-in : (setup : List Constituency) (code : List ℕ) (con : Constituency) (station : Station)
    → station_with code setup ≡ Some (con, station) → station_in con code ≡ Some station
station_with-in [] code con station is = cc
station_with-in (c ∷ setup) code con station is = go (either-in code con c station c.stations (all_stations setup) is) (station_with-in setup code con station)
  where
    go : ((c ≡ con) × (station_in c code ≡ Some station)) ⊎ (station_with code setup ≡ Some (con, station))
        → (station_with code setup ≡ Some (con, station) → station_in con code ≡ Some station) → station_in con code ≡ Some station
    go (inl here) later = subst (λ (x : Constituency). station_in x code ≡ Some station) here.0 here.1
    go (inr behind) later = later behind
