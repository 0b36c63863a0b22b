-- A constituency as contracts see it.
use Rattle.std.specs.Prelude.{◌+◌, ℕ, List, map}
use Rattle.tally_setup.specs.declared.profile.Profile.{Profile}
use Rattle.tally_setup.specs.declared.constituency.Entry.{Entry}
use Rattle.tally_setup.specs.declared.constituency.Station.{Station}

-- A list that stands for election, with its candidates in order (LOREG article 163.1 e)).
pub record ListEntry : Type 0 where
  pub code : List ℕ
  pub name : List ℕ
  pub candidates : List (List ℕ)

-- A constituency: its seats, the rule they are allotted by, whether its returns are entered once or
-- twice, its lists and its stations, in order.
pub record Constituency : Type 0 where
  pub code : List ℕ
  pub name : List ℕ
  pub seats : ℕ
  pub profile_code : List ℕ
  pub profile : Profile
  pub entry : Entry
  pub lists : List ListEntry
  pub stations : List Station

-- How many may vote at a station: its electors, and the agents of lists who vote where they serve
-- (LOREG article 105.4).
abbrev pub entitled : Station → ℕ
entitled station = station.electors + station.agents

abbrev pub list_codes : List ListEntry → List (List ℕ)
list_codes lists = map (λ (list : ListEntry). list.code) lists

abbrev pub station_codes : List Station → List (List ℕ)
station_codes stations = map (λ (station : Station). station.code) stations
