-- The limits that a setup keeps.
use Rattle.std.specs.Prelude.{◌≡◌, ◌≤◌, ℕ, true, List, length, sum_by, All}
use Rattle.tally_frac.specs.Limits.{most_lists, most_seats, most_votes, whole_base}
use Rattle.tally_setup.specs.Code.{is_code}
use Rattle.tally_setup.specs.Codes.{AreDistinct}
use Rattle.tally_setup.specs.Constituency.{Constituency, ListEntry, list_codes, entitled}
use Rattle.tally_setup.specs.Setup.{constituency_codes, all_station_codes}
use Rattle.tally_setup.specs.Text.{IsName}
use Rattle.tally_setup.specs.declared.constituency.Station.{Station}
use Rattle.tally_setup.specs.declared.profile.Profile.{Profile}

-- the constituencies of a setup
abbrev pub most_constituencies : ℕ
most_constituencies = 200

-- the profiles of a setup
abbrev pub most_profiles : ℕ
most_profiles = 200

-- the stations of a constituency
abbrev pub most_stations : ℕ
most_stations = 20000

-- the stations of a constituency of normal size
abbrev pub most_normal_stations : ℕ
most_normal_stations = 5000

-- the candidates of a list
abbrev pub most_candidates : ℕ
most_candidates = 1000

-- the electors of a station, and its electors and agents together
abbrev pub most_electors : ℕ
most_electors = 1000000

-- the agents of lists who vote at a station where they are no electors
abbrev pub most_agents : ℕ
most_agents = 1000

-- the threshold is at most the whole base
abbrev pub IsProfile : Profile → Type 0
IsProfile profile = profile.threshold ≤ whole_base

-- The limits of a list.
pub record IsListEntry (list : ListEntry) : Type 0 where
  pub code : is_code list.code ≡ true
  pub name : IsName list.name
  pub some_candidate : 1 ≤ length list.candidates
  pub candidates : length list.candidates ≤ most_candidates
  pub candidate_names : All IsName list.candidates

-- The limits of a station.
pub record IsStation (station : Station) : Type 0 where
  pub code : is_code station.code ≡ true
  pub some_elector : 1 ≤ station.electors
  pub agents : station.agents ≤ most_agents
  pub entitled : entitled station ≤ most_electors

-- The limits of a constituency, and that no two of its lists have one code. At most as many may
-- vote at its stations as an allotment can have votes, so its closed votes are within that limit.
pub record IsConstituency (con : Constituency) : Type 0 where
  pub code : is_code con.code ≡ true
  pub name : IsName con.name
  pub some_seat : 1 ≤ con.seats
  pub seats : con.seats ≤ most_seats
  pub profile_code : is_code con.profile_code ≡ true
  pub profile : IsProfile con.profile
  pub some_list : 1 ≤ length con.lists
  pub lists : length con.lists ≤ most_lists
  pub each_list : All IsListEntry con.lists
  pub codes : AreDistinct (list_codes con.lists)
  pub some_station : 1 ≤ length con.stations
  pub stations : length con.stations ≤ most_stations
  pub each_station : All IsStation con.stations
  pub entitled : sum_by entitled con.stations ≤ most_votes

-- The limits of a setup, and that no two of its constituencies have one code, and no two of its
-- stations.
pub record IsSetup (cons : List Constituency) : Type 0 where
  pub some_constituency : 1 ≤ length cons
  pub constituencies : length cons ≤ most_constituencies
  pub each_constituency : All IsConstituency cons
  pub codes : AreDistinct (constituency_codes cons)
  pub station_codes : AreDistinct (all_station_codes cons)
